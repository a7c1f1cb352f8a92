use Rattle.std.proofs.Common.{◌∙◌, ◌++◌, ◌∷◌, [], ap, string_bytes}
use Rattle.toml.specs.View.{members_view, view}
use Rattle.profile.specs.Values.{loss_said, losses_said}
use Rattle.profile.proofs.ShareLaws.{first_score, score_more}
use Rattle.profile.proofs.scores.losses_of.Goals as goal

pub entry_of-requires : goal.entry_of-requires
entry_of-requires c =
    (first_score (members_view c.loop-key.key-iterator) (string_bytes c.in-Some.key.now) (view c.in-Some.value.now)
    (members_view c.next.new.self) (ap members_view c.in-Some.ensures.steps) c.loop-key.invariant.near).0

pub loop-key-preserved : goal.loop-key-preserved
loop-key-preserved c =
    let left = members_view c.loop-key.key-iterator in
    let steps = ap members_view c.in-Some.ensures.steps in
    let key = string_bytes c.in-Some.key.now in
    let value = view c.in-Some.value.now in
    let rest = members_view c.next.new.self in
    let losses = c.loop-key.losses.items in
    let entry = c.entry_of.ensures ∙ ap (λ k. loss_said k value) c.as_str.ensures.value in
    let pushed = c.in_ok-push.ensures.items ∙ ap (λ loss. losses ++ loss ∷ []) entry in
    record {
      near = (first_score left key value rest steps c.loop-key.invariant.near).1;
      so_far =
          ap (λ all. all ++ losses_said rest) pushed
          ∙ score_more left key value rest losses steps
          ∙ c.loop-key.invariant.so_far;
    }

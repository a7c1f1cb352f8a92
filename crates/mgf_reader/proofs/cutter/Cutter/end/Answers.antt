use Rattle.std.proofs.Common.{◌≡◌, ℕ, List, length, ◌<◌, Err, sym, ap, subst, ◌∙◌, arith}
use Rattle.std.proofs.lemmas.Grind.{common_steps}
use Rattle.std.proofs.lemmas.List.{nil_from_length}
use Rattle.std.proofs.lemmas.Result.{err_from_is_err_and}
use Rattle.mgf_reader.specs.declared.cutter.Cutter.TheInside.{Inside}
use Rattle.mgf_reader.specs.inside.Judging.{line_at, end_of}
use Rattle.mgf_reader.specs.inside.Cutting.{Kept, Ends}
use Rattle.mgf_reader.proofs.TakesIn.{ends-line, ends-empty, ends-fault}
use Rattle.mgf_reader.proofs.cutter.Cutter.end.Goals.{then-not-is_empty+in_ok-judge, else-not-is_empty}
use Rattle.mgf_reader.proofs.cutter.Cutter.end.Goals as goal

pub returns-in_err-judge-clause-ends : goal.returns-in_err-judge-clause-ends
returns-in_err-judge-clause-ends c =
    let held : List ℕ = c.self.inside.unfinished.items in
    let kept : Kept = record { unfinished = held; lines = c.self.inside.judge } in
    let line : c.line_at-line.result.now ≡ line_at kept.lines.judged held = c.line_at-line.ensures
    ∙ ap (line_at c.judged.result) c.deref.ensures.value ∙ ap (λ n. line_at n held) c.judged.ensures in
    let some : 0 < length c.line_at-line.result.now = grind (arith, common_steps) in
    let p = err_from_is_err_and c.from_residual.result c.from_residual.ensures.1 in
    rw (p.1, p.2) (subst (λ k. Ends k (Err c.in_err-judge.field-0.0)
    (record { unfinished = held; lines = c.judge.new.self })) c.self.view_is
    (ends-fault kept held c.judge.new.self c.in_err-judge.field-0.0 c.line_at-line.result.now line some
    c.in_err-judge.ensures.judges))

pub returns-clause-ends : goal.returns-clause-ends
returns-clause-ends c =
    let held : List ℕ = c.self.inside.unfinished.items in
    let kept : Kept = record { unfinished = held; lines = c.self.inside.judge } in
    let line : c.line_at-line.result.now ≡ line_at kept.lines.judged held = c.line_at-line.ensures
    ∙ ap (line_at c.judged.result) c.deref.ensures.value ∙ ap (λ n. line_at n held) c.judged.ensures in
    let answers : (inside : Inside) → c.if-not-is_empty.self-inside ≡ inside
    → Ends kept c.end.result (record { unfinished = inside.unfinished.items; lines = inside.judge })
    → Ends c.args.self.now c.end.result
    (record {
      unfinished = c.if-not-is_empty.self-inside.unfinished.items;
      lines = c.if-not-is_empty.self-inside.judge;
    }) =
    λ inside is ends. subst (λ k. Ends k c.end.result
    (record {
      unfinished = c.if-not-is_empty.self-inside.unfinished.items;
      lines = c.if-not-is_empty.self-inside.judge;
    })) c.self.view_is
    (subst (λ (i : Inside). Ends kept c.end.result (record { unfinished = i.unfinished.items; lines = i.judge }))
    (sym is) ends) in
    elim c.if-not-is_empty.branch [
      | then-not-is_empty+in_ok-judge w ↦
          let some : 0 < length c.line_at-line.result.now = grind (arith, common_steps) in
          answers _ w.self-inside-is (ends-line kept held w.judge.new.self c.end.result c.line_at-line.result.now line
          some w.in_ok-judge.ensures.judges (c.end.ensures
          ∙ ap (λ (i : Inside). end_of i.judge.block) w.self-inside-is))
      | else-not-is_empty w ↦
          let size : length c.line_at-line.result.now ≡ 0 = grind (arith, common_steps) in
          answers _ w.self-inside-is (ends-empty kept c.end.result (sym line
          ∙ nil_from_length c.line_at-line.result.now size) (c.end.ensures
          ∙ ap (λ (i : Inside). end_of i.judge.block) w.self-inside-is))
    ]

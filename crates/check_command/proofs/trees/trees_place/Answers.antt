use Rattle.std.proofs.Common.{arith, refl, subst, sym}
use Rattle.std.proofs.lemmas.Option.{slice_get_read}
use Rattle.loss_graph.specs.Lists.{AreLists}
use Rattle.tree_document.specs.Document.{IsSmallCert, OfOutcome}
use Rattle.tree_document.specs.declared.entry.Entry.{Entry}
use Rattle.right_document.specs.Candidates.{ion_of}
use Rattle.check_command.specs.inside.CheckAnswers.{IsFinding}
use Rattle.right_document.specs.SettingsOf.{solve_settings_value_of}
use Rattle.check_command.proofs.EachCert.{each_at}
use Rattle.check_command.proofs.AreTreesAnswer.{answer_of_all, right_more, wrong_more, wrong_size}
use Rattle.check_command.proofs.trees.trees_place.Goals as goal
use Rattle.check_command.proofs.trees.trees_place.Goals.{in-Right, in-Tree}

pub finding_of-requires : goal.finding_of-requires
finding_of-requires g c =
    let settings = solve_settings_value_of c.args.settings.now in
    record {
      lists = subst (λ (entry : Entry). AreLists settings.listing.choice (ion_of settings entry.candidate)
          c.args.lists.now)
          (sym c.index-entries-place.is)
          (c.requires.lists c.loop-place.place c.index-entries-place.result c.loop-place-test.true);
      small = each_at (λ (entry : Entry). OfOutcome IsSmallCert entry.outcome) c.args.entries.now c.loop-place.place
          c.index-entries-place.result c.requires.small
          (slice_get_read c.args.entries.now _ _ c.index-entries-place.result refl c.loop-place-test.true
          c.index-entries-place.is);
    }

pub returns-in-Size : goal.returns-in-Size
returns-in-Size g c =
    let settings = solve_settings_value_of c.args.settings.now in
    wrong_size settings c.args.lists.now c.args.entries.now c.loop-place.place c.loop-place.first
    c.index-entries-place.result
    c.loop-place-test.true c.index-entries-place.is c.loop-place.invariant
    (subst (IsFinding settings c.args.lists.now c.index-entries-place.result) c.in-Size.is c.in_ok-finding_of.ensures)

pub loop-place-preserved : goal.loop-place-preserved
loop-place-preserved g c =
    let settings = solve_settings_value_of c.args.settings.now in
    let lists = c.args.lists.now in
    let entries = c.args.entries.now in
    let place = c.loop-place.place in
    let entry = c.index-entries-place.result in
    elim c.match-branch-2.branch [
      | in-Right w ↦
          let right = subst (IsFinding settings lists entry) w.in-Right.is c.in_ok-finding_of.ensures in
          rw w.first-is
          (right_more settings lists entries place c.loop-place.first entry c.loop-place-test.true
          c.index-entries-place.is
          c.loop-place.invariant right)
      | in-Tree w ↦
          let wrong = subst (IsFinding settings lists entry) w.in-Tree.is c.in_ok-finding_of.ensures in
          rw (w.first-is, w.or-first.ensures)
          (wrong_more settings lists entries place c.loop-place.first entry c.loop-place-test.true
          c.index-entries-place.is
          c.loop-place.invariant w.in-Tree.wrong wrong.0 wrong.1)
    ]

pub returns : goal.returns
returns g c =
    let settings = solve_settings_value_of c.args.settings.now in
    answer_of_all settings c.args.lists.now c.args.entries.now c.loop-place.place c.loop-place.first
    (omega arith) c.loop-place.invariant

use Rattle.std.proofs.Common.{rules, w16, FitsSigned}
use Rattle.std.proofs.lemmas.Int.{to_z-of_z}
use Rattle.score_tables.proofs.LossTables.{loss_table_after_sort}
use Rattle.score_tables.proofs.scores.Scores.new.Goals as goal

pub invariant_of-result : goal.invariant_of-result
invariant_of-result c =
    let fits_radical : FitsSigned w16 c.args.radical = search rules in
    let fits_negative : FitsSigned w16 c.args.negative = search rules in
    record {
      right = record {
        intensity = c.requires.intensity;
        error = c.requires.error;
        named =
            loss_table_after_sort c.args.named.items c.sort_losses.new.table.items c.requires.named
            c.sort_losses.ensures.moved c.sort_losses.ensures.rising;
        implausible =
            loss_table_after_sort c.args.implausible.items c.sort_losses-2.new.table.items c.requires.implausible
            c.sort_losses-2.ensures.moved c.sort_losses-2.ensures.rising;
        radical = rw to_z-of_z c.requires.radical;
        negative = rw to_z-of_z c.requires.negative;
        not_small = c.requires.not_small;
        not_large = c.requires.not_large;
      };
      named = c.sort_losses.ensures.rising;
      implausible = c.sort_losses-2.ensures.rising;
    }

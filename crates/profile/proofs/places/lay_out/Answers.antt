use Rattle.std.proofs.Common.{◌∙◌, ◌++◌, ap, []}
use Rattle.element_table.specs.Elements.{symbols}
use Rattle.toml.specs.View.{table_view}
use Rattle.profile.specs.Form.{whole}
use Rattle.profile.specs.Places.{places_of_keys}
use Rattle.profile.specs.inside.Searched.{losses_seen, places_seen}
use Rattle.profile.proofs.places.lay_out.Goals as goal

pub returns : goal.returns
returns c =
    let entries = table_view c.args.table.now in
    c.in_ok-add_keys.ensures
    ∙ ap (λ items. places_seen items ++ places_of_keys
    (record { symbols = symbols; named = losses_seen c.named_losses.result }) whole [] entries)
    c.new-places.ensures.items
    ∙ ap (λ named. places_of_keys (record { symbols = symbols; named = named }) whole [] entries) c.named_losses.ensures

use Rattle.std.proofs.Common.{◌≡◌, ◌∙◌, sym, ap, rules, length}
use Rattle.toml.specs.View.{view}
use Rattle.profile.specs.Form.{too_many}
use Rattle.profile.proofs.KindLaws.{items_excess-array}
use Rattle.profile.proofs.form.too_many_items.Goals as goal

pub returns-in-Some : goal.returns-in-Some
returns-in-Some c =
    let len : c.len.result ≡ length c.in-Some.items.now.items = search rules in
    c.too_many.ensures ∙ ap (too_many c.args.greatest) len
    ∙ sym (items_excess-array c.args.greatest (view c.args.value.now) c.in-Some.items.now.items (sym c.in-Some.ensures))

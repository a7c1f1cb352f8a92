use Rattle.std.proofs.Common.{◌≡◌, ◌∙◌, rules, tests}
use Rattle.std.specs.Char.{is_ascii_digit}
use Rattle.std.specs.List.{list_all}
use Rattle.std.proofs.lemmas.Iterator.{YieldsList-from_slice}
use Rattle.std.proofs.lemmas.Iterator.Search.{all_from_yields_List}
use Rattle.fixed_mass.proofs.DigitsValue.{all_is}
use Rattle.fixed_mass.proofs.numeral.is_all_digits.Goals as goal

pub returns : goal.returns
returns c =
    let bytes = c.args.bytes.now in
    let all : c.all.result ≡ list_all is_ascii_digit bytes =
    all_from_yields_List is_ascii_digit _ _ c.all.result c.all.ensures.ran (YieldsList-from_slice bytes cc)
    (λ x b q k. search (rules, tests)) in
    all ∙ all_is bytes

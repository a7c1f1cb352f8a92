-- `order_of`: what the form of words says of the order that they give.
use Rattle.std.proofs.Common.{◌≡◌, ℕ, Bool, true, false, List, Option, Some, None, MatchOption, refl, ◌∙◌, ap}
use Rattle.std.specs.Prelude.{codes, is_some, if◌then◌else◌}
use Rattle.std.specs.Option.{option_map, option_and_then}
use Rattle.adducts.specs.Adduct.{AdductValue}
use Rattle.order_words.specs.Words.{Given, KnownOption, formed_options, has_form, options_of, value_in}
use Rattle.order_words.specs.Orders.{DocumentNames, Order, adduct_by, check, check_order_of, document_names_in, list}
use Rattle.order_words.specs.Orders.{solve_order, solve_order_of, text_names_of}
use Rattle.order_words.specs.declared.orders.ListNames.{ListNames as NamesRead}
use Rattle.order_words.specs.NamesOf.{names_of}

pub formless : (form : Option (List Given)) → is_some form ≡ false → form ≡ None
formless None is = refl
formless (Some options) is = cc

-- words of the right form give options
pub formed : (table : List KnownOption) (words : List (List ℕ)) → is_some (formed_options table words) ≡ true
    → (options : List Given) × (formed_options table words ≡ Some options) × (options_of table words ≡ Some options)
formed table words is = by_options (options_of table words) refl is
  where
    kept : (options : List Given) (form : Bool) → is_some (if form then Some options else None) ≡ true
        → (if form then Some options else None) ≡ Some options
    kept options true is = refl
    kept options false is = cc

    by_options : (all : Option (List Given)) → options_of table words ≡ all
        → is_some (option_and_then (λ options. if has_form table options then Some options else None) all) ≡ true
        → (options : List Given) × (formed_options table words ≡ Some options) × (options_of table words ≡ Some options)
    by_options None of is = cc
    by_options (Some options) of is = (
      options,
      ap (option_and_then (λ options. if has_form table options then Some options else None)) of
          ∙ kept options (has_form table options) is,
      of,
    )

-- what options name by their values
pub text_names-by : (options : List Given) (spectra : List ℕ) (profile given : Option (List ℕ))
    (adduct : Option AdductValue)
    → value_in (codes "--in") options ≡ Some spectra → value_in (codes "--profile") options ≡ profile
    → value_in (codes "--adduct") options ≡ given
    → adduct_by given ≡ adduct
    → text_names_of options ≡ option_map (λ a. record { spectra = spectra; profile = profile; adduct = a }) adduct
text_names-by options spectra profile given adduct in_is profile_is given_is adduct_is =
    ap (option_and_then (λ text. option_map
    (λ a. record { spectra = text; profile = value_in (codes "--profile") options; adduct = a })
    (adduct_by (value_in (codes "--adduct") options)))) in_is
    ∙ ap (λ (p : Option (List ℕ)). option_map (λ a. record { spectra = spectra; profile = p; adduct = a })
    (adduct_by (value_in (codes "--adduct") options))) profile_is
    ∙ ap (option_map (λ a. record { spectra = spectra; profile = profile; adduct = a }))
    (ap adduct_by given_is ∙ adduct_is)

-- without a text they name nothing
pub text_names-none : (options : List Given) → value_in (codes "--in") options ≡ None → text_names_of options ≡ None
text_names-none options is =
    ap (option_and_then (λ text. option_map
    (λ a. record { spectra = text; profile = value_in (codes "--profile") options; adduct = a })
    (adduct_by (value_in (codes "--adduct") options)))) is

-- the order of a list is that of what is named
pub list_order-by : (result : Option NamesRead) (order : Option Order) → order ≡ option_map (λ names. list names)
    (option_map names_of result)
    → MatchOption result (order ≡ None) (λ names. order ≡ Some (list (names_of names)))
list_order-by None order is = is
list_order-by (Some names) order is = is

-- the orders of a solving and of a check are those of what is named
pub solve_order-by : (form : Option (List Given)) (names : Option DocumentNames)
    → option_and_then document_names_in form ≡ names
    → option_and_then solve_order_of form ≡ option_and_then solve_order names
solve_order-by None names is = ap (option_and_then solve_order) is
solve_order-by (Some options) names is = ap (option_and_then solve_order) is

pub check_order-by : (form : Option (List Given)) (names : Option DocumentNames)
    → option_and_then document_names_in form ≡ names
    → option_and_then check_order_of form ≡ option_map (λ names. check names) names
check_order-by None names is = ap (option_map (λ names. check names)) is
check_order-by (Some options) names is = ap (option_map (λ names. check names)) is

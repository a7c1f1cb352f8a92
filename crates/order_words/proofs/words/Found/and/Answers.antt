use Rattle.std.proofs.Common.{List, Option, ℕ, ◌++◌, ◌∷◌, [], ap, subst}
use Rattle.std.specs.Option.{option_copied}
use Rattle.order_words.specs.inside.Words.{IsFound}
use Rattle.order_words.proofs.words.Found.and.Goals as goal

pub returns-in-Bare-default : goal.returns-in-Bare-default
returns-in-Bare-default c = λ values found.
    let is = subst (λ f. IsFound f values) c.in-Bare-default.is-0 found in
    (option_copied c.args.value, [], ap (λ (v : List (Option (List ℕ))). v ++ option_copied c.args.value ∷ []) is)

pub returns-in-Value-default : goal.returns-in-Value-default
returns-in-Value-default c = λ values found.
    let is = subst (λ f. IsFound f values) c.in-Value-default.is-0 found in
    (option_copied c.args.value, [], ap (λ (v : List (Option (List ℕ))). v ++ option_copied c.args.value ∷ []) is)

pub returns-in-Twice-default : goal.returns-in-Twice-default
returns-in-Twice-default c = λ values found.
    let is = subst (λ f. IsFound f values) c.in-Twice-default.is-0 found in (
      is.0,
      is.1 ++ option_copied c.args.value ∷ [],
      ap
          (λ (v : List (Option (List ℕ))). v ++ option_copied c.args.value ∷ []) is.2,
    )

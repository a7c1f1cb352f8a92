-- The forms of the program, as the definitions see them.
use Rattle.std.specs.Prelude.{ℕ, List, map}
use Rattle.std.specs.Borrow.{Bor}
use Rattle.profile.specs.declared.form.Form.{Form}
use Rattle.profile.specs.declared.form.Form.TheVariants as Known
use Rattle.profile.specs.Form as spec

abbrev pub form_seen : Form → spec.Form
form_seen Known.Whole = spec.whole
form_seen (Known.Number least most) = spec.number least most
form_seen Known.Parity = spec.word spec.parities
form_seen Known.Apply = spec.word spec.uses
form_seen Known.Elements = spec.limits
form_seen Known.Coefficients = spec.coefficients
form_seen Known.Rules = spec.rules
form_seen Known.Rule = spec.rule
form_seen Known.Scores = spec.scores
form_seen Known.Intensities = spec.intensities
form_seen Known.Errors = spec.errors
form_seen Known.Pair = spec.pair
form_seen Known.NamedLosses = spec.named_losses
form_seen Known.ImplausibleLosses = spec.implausible_losses
form_seen (Known.Loss free) = spec.loss free
form_seen Known.Unknown = spec.unknown

-- the keys of a table of the program
abbrev pub rows_seen : List (Bor (List ℕ) × Form) → List (List ℕ × spec.Form)
rows_seen rows = map (λ row. (row.0.now, form_seen row.1)) rows

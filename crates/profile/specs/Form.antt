-- What may stand at a place of a profile text: the keys of its tables, the kinds of its values, and the ranges of its
-- numbers.
use Rattle.std.specs.Prelude.{ℕ, zero, suc, ℤ, pos, neg_ℤ, int_lt, int_le, Bool, true, false, ◌&&◌, List, [], ◌∷◌}
use Rattle.std.specs.Prelude.{Option, Some, None, is_none, is_some, option_and_then, unwrap_or, codes, nat_le, bytes_eq}
use Rattle.std.specs.Prelude.{if◌then◌else◌}
use Rattle.std.specs.List.{list_any}
use Rattle.std.specs.Map.{lookup}
use Rattle.element_table.specs.Elements.{greatest_count}
use Rattle.score_tables.specs.Tables.{falls_to_nought, greatest_losses, greatest_pairs, greatest_score, greatest_share}
use Rattle.score_tables.specs.Tables.{greatest_size, least_size, rises_to_whole}
use Rattle.toml.specs.Data.{Data, string, integer, array, table, as_integer, at, Items, no_items, item, Members}
use Rattle.toml.specs.Data.{no_members, member}
use Rattle.profile.specs.Profile.{greatest_abs, greatest_budget, greatest_peaks, greatest_ppm, greatest_rules}
use Rattle.profile.specs.Table.{element_numbers}

-- what is known of the whole table before its places are looked at
pub record Known : Type 0 where
  -- the symbols that its keys may use
  pub symbols : List (List ℕ)
  -- the losses that it names
  pub named : List (List ℕ)

pub data Form : Type 0 where
  -- the whole table
  whole : Form
  -- an integer from one to another
  number : ℤ → ℤ → Form
  -- one of some strings
  word : List (List ℕ) → Form
  -- a table of elements with integers, of which one at least is positive
  limits : Form
  -- a table of elements with integers
  coefficients : Form
  -- an array of rules
  rules : Form
  -- a table that is a rule
  rule : Form
  -- a table of the tables that scores are read from
  scores : Form
  -- an array of pairs, whose bounds are in the order of an intensity's table
  intensities : Form
  -- an array of pairs, whose bounds are in the order of an error's table
  errors : Form
  -- a pair of a bound and a score
  pair : Form
  -- a table of losses that are common
  named_losses : Form
  -- a table of losses that hardly occur
  implausible_losses : Form
  -- the score of a loss, at a key that gives a loss that no key before gives, or at another
  loss : Bool → Form
  -- nothing that is known
  unknown : Form

-- the keys of the whole table
abbrev pub profile_keys : List (List ℕ × Form)
profile_keys =
    (codes "version", number (pos 1) (pos 1))
    ∷ (codes "ppm", number (pos 0) (pos greatest_ppm))
    ∷ (codes "abs", number (pos 0) (pos greatest_abs))
    ∷ (codes "peaks", number (pos 1) (pos greatest_peaks))
    ∷ (codes "budget", number (pos 0) (pos greatest_budget))
    ∷ (codes "elements", limits)
    ∷ (codes "rules", rules)
    ∷ (codes "scores", scores)
    ∷ []

abbrev pub parities : List (List ℕ)
parities = codes "any" ∷ codes "even" ∷ codes "odd" ∷ []

-- what a rule may be for: every listed formula, or candidates alone
abbrev pub uses : List (List ℕ)
uses = codes "all" ∷ codes "neutral" ∷ []

-- the keys of a rule
abbrev pub rule_keys : List (List ℕ × Form)
rule_keys =
    (codes "coefficients", coefficients)
    ∷ (codes "constant", number (neg_ℤ (pos 1000000)) (pos 1000000))
    ∷ (codes "parity", word parities)
    ∷ (codes "apply", word uses)
    ∷ []

-- a score, which is near 0
abbrev pub score : Form
score = number (neg_ℤ (pos greatest_score)) (pos greatest_score)

-- the keys of `scores`
abbrev pub score_keys : List (List ℕ × Form)
score_keys =
    (codes "intensity", intensities)
    ∷ (codes "error", errors)
    ∷ (codes "named", named_losses)
    ∷ (codes "implausible", implausible_losses)
    ∷ (codes "radical", score)
    ∷ (codes "negative", score)
    ∷ (codes "size", number (pos least_size) (pos greatest_size))
    ∷ []

-- whether a key is one of the symbols
abbrev pub is_symbol : List (List ℕ) → List ℕ → Bool
is_symbol symbols key = list_any (bytes_eq key) symbols

-- what may stand at a key, where some keys are known
abbrev pub form_among : List (List ℕ × Form) → List ℕ → Form
form_among keys key = unwrap_or (lookup (bytes_eq key) keys) unknown

-- an integer in a range, where the key is one of the symbols
abbrev pub number_of_element : List (List ℕ) → List ℕ → ℤ → ℤ → Form
number_of_element symbols key least most = if is_symbol symbols key then number least most else unknown

-- what may stand at a key of a table of this form
abbrev pub form_at : Known → Form → List ℕ → Form
form_at known whole key = form_among profile_keys key
form_at known rule key = form_among rule_keys key
form_at known scores key = form_among score_keys key
form_at known limits key = number_of_element known.symbols key (pos 0) (pos greatest_count)
form_at known coefficients key = number_of_element known.symbols key (neg_ℤ (pos 1000)) (pos 1000)
form_at known form key = unknown

-- forms of tables whose keys are words
abbrev pub has_keys : Form → Bool
has_keys whole = true
has_keys rule = true
has_keys scores = true
has_keys limits = true
has_keys coefficients = true
has_keys form = false

-- forms of tables whose keys are losses, and the losses that their keys may not give
abbrev pub taken_at : Known → Form → Option (List (List ℕ))
taken_at known named_losses = Some []
taken_at known implausible_losses = Some known.named
taken_at known form = None

-- forms of arrays whose items are looked at
abbrev pub has_items : Form → Bool
has_items rules = true
has_items intensities = true
has_items errors = true
has_items pair = true
has_items form = false

-- what may stand at an item of an array of this form
abbrev pub item_form : Form → ℕ → Form
item_form rules place = rule
item_form pair zero = number (pos 0) (pos greatest_share)
item_form pair (suc place) = score
item_form form place = pair

abbrev pub is_unknown : Form → Bool
is_unknown unknown = true
is_unknown form = false

-- some element has a positive integer
abbrev pub has_positive : Members → Bool
has_positive members = list_any (int_lt (pos 0)) (element_numbers members)

-- the integer at an item of an array
abbrev pub integer_at : ℕ → Data → Option ℤ
integer_at place value = option_and_then as_integer (at place value)

-- an array of two integers
abbrev pub is_pair : Data → Bool
is_pair value = is_some (integer_at 0 value) && (is_some (integer_at 1 value) && is_none (at 2 value))

abbrev pub are_pairs : Items → Bool
are_pairs no_items = true
are_pairs (item value items) = is_pair value && are_pairs items

-- the bound of a pair, and its score
abbrev pub pair_bound : Data → ℤ
pair_bound value = unwrap_or (integer_at 0 value) (pos 0)

abbrev pub pair_score : Data → ℤ
pair_score value = unwrap_or (integer_at 1 value) (pos 0)

abbrev pub item_bounds : Items → List ℤ
item_bounds no_items = []
item_bounds (item value items) = pair_bound value ∷ item_bounds items

-- whether a value has the kind of its form
abbrev pub has_kind : Form → Data → Bool
has_kind (number least most) (integer z) = true
has_kind (word words) (string text) = list_any (bytes_eq text) words
has_kind limits (table entries) = has_positive entries
has_kind coefficients (table entries) = true
has_kind rules (array values) = true
has_kind rule (table entries) = true
has_kind scores (table entries) = true
has_kind intensities (array values) = are_pairs values && falls_to_nought (item_bounds values)
has_kind errors (array values) = are_pairs values && rises_to_whole (item_bounds values)
has_kind pair value = is_pair value
has_kind named_losses (table entries) = true
has_kind implausible_losses (table entries) = true
has_kind (loss free) (integer z) = free
has_kind form value = false

abbrev pub items_len : Items → ℕ
items_len no_items = 0
items_len (item value items) = suc (items_len items)

abbrev pub members_len : Members → ℕ
members_len no_members = 0
members_len (member key value members) = suc (members_len members)

-- an integer outside a range
abbrev pub outside : ℤ → ℤ → ℤ → Option ℤ
outside least most z = if int_le least z && int_le z most then None else Some z

-- how many there are, where they are too many
abbrev pub too_many : ℕ → ℕ → Option ℤ
too_many greatest count = if nat_le count greatest then None else Some (pos count)

-- the number that is out of range: an integer out of its own, or how many items or keys there are where they are too
-- many
abbrev pub excess_of : Form → Data → Option ℤ
excess_of (number least most) (integer z) = outside least most z
excess_of (loss free) (integer z) = outside (neg_ℤ (pos greatest_score)) (pos greatest_score) z
excess_of rules (array values) = too_many greatest_rules (items_len values)
excess_of intensities (array values) = too_many greatest_pairs (items_len values)
excess_of errors (array values) = too_many greatest_pairs (items_len values)
excess_of named_losses (table entries) = too_many greatest_losses (members_len entries)
excess_of implausible_losses (table entries) = too_many greatest_losses (members_len entries)
excess_of form value = None

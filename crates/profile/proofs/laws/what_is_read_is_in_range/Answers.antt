use Rattle.profile.proofs.ProfileLaws.{what_is_read}
use Rattle.profile.proofs.laws.what_is_read_is_in_range.Goals as goal

pub returns : goal.returns
returns c bytes profile is = what_is_read c.a_read_formula_is_one.ensures c.default_tables_are_right.ensures
    c.sorted_tables_are_right.ensures bytes profile is

use Rattle.element_table.specs.Listed.{listed_of}
use Rattle.element_table.proofs.Listing.{listed_of-is_listed, same_lists_listed}
use Rattle.element_table.proofs.laws.the_list_is_a_filter.Goals as goal

pub returns-clause-is_listed : goal.returns-clause-is_listed
returns-clause-is_listed c = listed_of-is_listed

pub returns-clause-only_one : goal.returns-clause-only_one
returns-clause-only_one c window limits rules formulas places listed =
    same_lists_listed window limits rules formulas (listed_of window limits rules) listed
    (listed_of-is_listed window limits rules places)

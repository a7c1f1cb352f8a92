-- How the program holds what the definitions speak of, and what its parts owe to one another. A reader of the promises
-- needs none of it: which profile a text gives, or why it is refused, stands in the clauses of `read_profile`.
pub mod Seen
pub mod Searched
pub mod Counted
pub mod Fine
pub mod Ordered

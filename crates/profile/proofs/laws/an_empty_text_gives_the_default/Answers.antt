use Rattle.profile.proofs.Examples.{nothing}
use Rattle.profile.proofs.laws.an_empty_text_gives_the_default.Goals as goal

pub returns : goal.returns
returns c = nothing

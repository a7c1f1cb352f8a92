use Rattle.std.proofs.Common.{◌≡◌, take}
use Rattle.check_command.proofs.entries.first_other_list.Given as goal

abbrev pub invariant-loop-number : goal.invariant-loop-number
invariant-loop-number l = take l.number l.own ≡ take l.number l.lists

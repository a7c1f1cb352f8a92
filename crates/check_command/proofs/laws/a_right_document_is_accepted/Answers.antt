use Rattle.std.proofs.Common.{refl}
use Rattle.check_command.proofs.laws.a_right_document_is_accepted.Goals as goal

pub returns : goal.returns
returns c settings text fault document good right = record {
  document = document;
  read = c.bytes_read_one_way.ensures.spelling document good;
  right = right;
  counted = refl;
}

use Rattle.std.proofs.Common.{refl}
use Rattle.document_reader.proofs.Known.{Known}
use Rattle.document_reader.proofs.OneReading.{one_reading, read_again}
use Rattle.document_reader.proofs.SomeReading.{some_reading}
use Rattle.document_reader.proofs.laws.bytes_read_one_way.Goals as goal

pub returns : goal.returns
returns c =
    let known : Known = record {
      sound = c.a_line_is_read_as_it_is_spelled.ensures.sound;
      complete = c.a_line_is_read_as_it_is_spelled.ensures.complete;
      visible = c.a_spelling_is_one_word.ensures.visible;
    } in
    record {
      some = some_reading known;
      one = one_reading known;
      spelling = λ document good. (good, refl);
      again = read_again known;
    }

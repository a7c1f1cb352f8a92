use Rattle.document_reader.proofs.Known.{Known}
use Rattle.document_reader.proofs.Refusing.{bad_line, bad_within, big_line, big_within, cut_short, deep_line}
use Rattle.document_reader.proofs.Refusing.{deep_within, past_end}
use Rattle.document_reader.proofs.laws.lines_stop_as_documents_say.Goals as goal

pub returns : goal.returns
returns c =
    let known : Known = record {
      sound = c.a_line_is_read_as_it_is_spelled.ensures.sound;
      complete = c.a_line_is_read_as_it_is_spelled.ensures.complete;
      visible = c.a_spelling_is_one_word.ensures.visible;
    } in
    record {
      bad = bad_line known;
      big = big_line known;
      deep = deep_line known;
      bad_within = bad_within known;
      big_within = big_within known;
      deep_within = deep_within known;
      short = cut_short known;
      past_end = past_end known;
    }

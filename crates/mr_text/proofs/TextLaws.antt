-- The laws of texts, from the laws of lines.
use Rattle.mr_lines.proofs.LineLaws.{line_takes, line_is_one}
use Rattle.mr_lines.proofs.PartLaws.{spaced_again}
use Rattle.mr_text.specs.Laws.{ReadIsText, TextIsRead, OneText, NoneBegins, LinesBegin}
use Rattle.mr_text.proofs.Beginning.{lines_begin}
use Rattle.mr_text.proofs.Pieces.{text_is_read, one_text, none_begins}
use Rattle.mr_text.proofs.Walking.{read_is_text}

pub read_law : ReadIsText
read_law = read_is_text line_takes spaced_again

pub text_law : TextIsRead
text_law = text_is_read line_is_one

pub one_law : OneText
one_law = one_text text_law

pub none_law : NoneBegins
none_law = none_begins text_law

pub begin_law : LinesBegin
begin_law = lines_begin line_takes spaced_again

use Rattle.std.proofs.Common.{◌++◌, sym, ap, ◌∙◌}
use Rattle.repl_messages.specs.Errors.{error_subject}
use Rattle.repl_messages.proofs.Appended.{appended_two}
use Rattle.repl_messages.proofs.error.ErrorKind.write_text.Goals as goal

pub returns : goal.returns
returns c =
    rw (sym c.words.ensures)
    (appended_two c.write_subject.result c.args.out.now c.extend_from_slice.new.self c.write_subject.new.out c.words.result.now (error_subject c.args.self.now)
    (c.in_ok-extend_from_slice.ensures.ok ∙ ap (λ t. c.args.out.now ++ t) c.as_bytes.ensures.value)
    c.write_subject.ensures)

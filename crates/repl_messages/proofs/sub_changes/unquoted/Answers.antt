use Rattle.std.proofs.Common.{lit<}
use Rattle.std.proofs.lemmas.Str.Pattern.{strip_prefix_char, strip_suffix_char}
use Rattle.repl_messages.proofs.Quotes.{unquoted-quoted, unquoted-bare, unquoted-open}
use Rattle.repl_messages.proofs.sub_changes.unquoted.Goals as goal

pub returns-in_default : goal.returns-in_default
returns-in_default c =
    unquoted-bare c.args.text.now (rw c.in_default.is at (strip_prefix_char 34 c.args.text.now c.strip_prefix.result c.strip_prefix.ensures.cases (lit< tt)))

pub returns-in-Some-strip_suffix : goal.returns-in-Some-strip_suffix
returns-in-Some-strip_suffix c =
    unquoted-quoted c.args.text.now c.in-Some.rest.now c.in-Some-strip_suffix.inner.now
    (rw c.in-Some.is at (strip_prefix_char 34 c.args.text.now c.strip_prefix.result c.strip_prefix.ensures.cases (lit< tt)))
    (rw c.in-Some-strip_suffix.is at (strip_suffix_char 34 c.in-Some.rest.now c.strip_suffix.result c.strip_suffix.ensures.cases (lit< tt)))

pub returns-in-None : goal.returns-in-None
returns-in-None c =
    unquoted-open c.args.text.now c.in-Some.rest.now
    (rw c.in-Some.is at (strip_prefix_char 34 c.args.text.now c.strip_prefix.result c.strip_prefix.ensures.cases (lit< tt)))
    (rw c.in-None.is at (strip_suffix_char 34 c.in-Some.rest.now c.strip_suffix.result c.strip_suffix.ensures.cases (lit< tt)))

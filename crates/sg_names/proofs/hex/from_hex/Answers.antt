use Rattle.std.proofs.Common.{rules}
use Rattle.sg_names.proofs.HexTexts.{read_hex, refused_hex}
use Rattle.sg_names.proofs.hex.from_hex.Goals as goal

pub returns-else-is_err-clause-grammar : goal.returns-else-is_err-clause-grammar
returns-else-is_err-clause-grammar c =
    read_hex c.read_while-read.result c.args.text.now c.args.out.now c.read_while-read.new.out (search rules) (search rules) c.read_while-read.ensures.ok

pub returns-else-is_err-clause-outside : goal.returns-else-is_err-clause-outside
returns-else-is_err-clause-outside c =
    let ok = read_hex c.read_while-read.result c.args.text.now c.args.out.now c.read_while-read.new.out (search rules) (search rules) c.read_while-read.ensures.ok in
    refused_hex c.read_while-read.result c.args.text.now (search rules) (search rules) c.read_while-read.ensures.memory ok

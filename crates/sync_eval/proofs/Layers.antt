-- What code is the code of, one level at a time.
use Rattle.std.proofs.Common.{◌≡◌, ℕ, List, rules}
use Rattle.sync_tokens.specs.declared.place.Place.{Place}
use Rattle.sync_syntax.specs.declared.tree.Expr.{out-Expr}
use Rattle.sync_syntax.specs.declared.tree.Expr as exprs
use Rattle.sync_syntax.specs.declared.tree.Expr.TheOpen.{Expr-F, Suffix-F}
use Rattle.sync_syntax.specs.declared.tree.Suffix.{out-Suffix}
use Rattle.sync_meaning.specs.Expressions.{ExprLayer, SuffixLayer}
use Rattle.sync_code.specs.declared.code.Code.{Code, out-Code}
use Rattle.sync_code.specs.declared.code.Code as codes
use Rattle.sync_code.specs.declared.code.Code.TheOpen.{Code-F, Tail-F}
use Rattle.sync_code.specs.declared.code.Code.TheVariants as codes_of
use Rattle.sync_code.specs.declared.code.Tail.{Tail, out-Tail}
use Rattle.sync_code.specs.declared.code.Tail.TheVariants as tails
use Rattle.sync_meaning.specs.declared.variables.Slot.{Slot}
use Rattle.sync_code.specs.Code.{source, tail_source, sources, tail_sources, member_sources, operand_sources}

abbrev pub source_layer : Code-F Code Tail → ExprLayer
source_layer (Code-F.Undefined p) = Expr-F.Undefined p
source_layer (Code-F.Null p) = Expr-F.Null p
source_layer (Code-F.Bool p b) = Expr-F.Bool p b
source_layer (Code-F.Integer p n) = Expr-F.Integer p n
source_layer (Code-F.Text p l) = Expr-F.Text p l.text
source_layer (Code-F.Name p x) = Expr-F.Name p x.name
source_layer (Code-F.List p es) = Expr-F.List p (sources es)
source_layer (Code-F.Object p ms) = Expr-F.Object p (member_sources ms)
source_layer (Code-F.Prefix p o x) = Expr-F.Prefix p o (source x)
source_layer (Code-F.Postfix first ss) = Expr-F.Postfix (source first) (tail_sources ss)
source_layer (Code-F.Chain first os) = Expr-F.Chain (source first) (operand_sources os)
source_layer (Code-F.Choice c x y) = Expr-F.Choice (source c) (source x) (source y)

abbrev pub tail_source_layer : Tail-F Code Tail → SuffixLayer
tail_source_layer (Tail-F.Member n) = Suffix-F.Member n
tail_source_layer (Tail-F.Index x) = Suffix-F.Index (source x)
tail_source_layer (Tail-F.Call es) = Suffix-F.Call (sources es)

pub out_source : (c : Code) → out-Expr (source c) ≡ source_layer (out-Code c)
out_source c = search (rules, codes.the_lemmas, exprs.the_lemmas)

pub out_tail_source : (t : Tail) → out-Suffix (tail_source t) ≡ tail_source_layer (out-Tail t)
out_tail_source t = search (rules, codes.the_lemmas, exprs.the_lemmas)

pub member_layer : (name : List ℕ) → out-Suffix (tail_source (tails.Member name)) ≡ Suffix-F.Member name
member_layer name = search (rules, codes.the_lemmas, exprs.the_lemmas)

pub name_layer : (p : Place) (x : Slot) → out-Expr (source (codes_of.Name p x)) ≡ Expr-F.Name p x.name
name_layer p x = search (rules, codes.the_lemmas, exprs.the_lemmas)

-- What is read takes some tokens.
use Rattle.std.proofs.Common.{◌≡◌, ℕ, Bool, false, List, Option, Ok, subst}
use Rattle.sync_syntax.specs.declared.tree.Expr.{Expr}
use Rattle.sync_syntax.specs.declared.tree.Named.{Named}
use Rattle.sync_syntax.specs.declared.tree.Statement.{Statement}
use Rattle.sync_syntax.specs.declared.tree.Suffix.{Suffix}
use Rattle.sync_syntax.specs.Reading.{Tokens, Outcome}
use Rattle.sync_syntax.specs.Expressions.{member_rule, suffix_rule, chain_in, nested}
use Rattle.sync_syntax.specs.Statements.{declared_rule, statement}
use Rattle.sync_syntax.specs.Grammar.{IsExpr, IsChain, IsMember, IsSuffix, IsStatement}
use Rattle.sync_syntax.proofs.Holds.{Holds}
use Rattle.sync_syntax.proofs.Past.{GoesPast, past_on, expr_past, chain_past, given_on, named_past}
use Rattle.sync_syntax.proofs.Past as past
use Rattle.sync_syntax.proofs.SoundExpressions.{nested-holds, member-holds, suffix-holds, chain-holds}
use Rattle.sync_syntax.proofs.SoundStatements.{IsOne, declared-holds, statement-holds}

holds_at : {A : Type 0} (r : Outcome A) (P : A → Tokens → Type 0) (x : A) (us : Tokens) → Holds r P → r ≡ Ok (x, us) → P x us
holds_at r P x us h is = subst (λ q. Holds q P) is h

pub nested_goes : (room : ℕ) (ts us : Tokens) (x : Expr) → nested room false ts ≡ Ok (x, us) → GoesPast ts us
nested_goes room ts us x is = expr_past (holds_at (nested room false ts) (λ y vs. IsExpr ts y vs) x us (nested-holds room false ts) is)

pub member_goes : (room : ℕ) (ts us : Tokens) (x : List ℕ × Expr) → member_rule (nested room) ts ≡ Ok (x, us) → GoesPast ts us
member_goes room ts us x is = past.member_past (holds_at (member_rule (nested room) ts) (λ y vs. IsMember ts y vs) x us (member-holds (nested room) (nested-holds room) ts) is)

pub suffix_goes : (room : ℕ) (ts us : Tokens) (x : Suffix) → suffix_rule (nested room) ts ≡ Ok (x, us) → GoesPast ts us
suffix_goes room ts us x is = past.suffix_past (holds_at (suffix_rule (nested room) ts) (λ y vs. IsSuffix ts y vs) x us (suffix-holds (nested room) (nested-holds room) ts) is)

pub chain_goes : (room level : ℕ) (ts us : Tokens) (x : Expr) → chain_in room level ts ≡ Ok (x, us) → GoesPast ts us
chain_goes room level ts us x is = chain_past (holds_at (chain_in room level ts) (λ y vs. IsChain level ts y vs) x us (chain-holds room (nested room) (nested-holds room) level ts) is)

pub declared_goes : (room : ℕ) (ts us : Tokens) (x : Named × Option Expr) → declared_rule room ts ≡ Ok (x, us) → GoesPast ts us
declared_goes room ts us x is =
    let h : IsOne room ts x us = holds_at (declared_rule room ts) (λ y vs. IsOne room ts y vs) x us (declared-holds room ts) is in past_on (named_past h.1) (given_on h.2)

pub statement_goes : (room : ℕ) (l : Bool) (ts us : Tokens) (x : Statement) → statement room l ts ≡ Ok (x, us) → GoesPast ts us
statement_goes room l ts us x is = past.statement_past (holds_at (statement room l ts) (λ y vs. IsStatement l ts y vs) x us (statement-holds room l ts) is)

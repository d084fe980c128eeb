-- what the program says of a revision by a board
use Rattle.std.proofs.Common.{◌≡◌, ◌≢◌, ◌∙◌, ℕ, Bool, true, false, List, [], ◌∷◌, Option, Some, None, Ok, Err, refl, sym, ap, subst, option_map, is_some, IfSome, true≢false}
use Rattle.sg_history.specs.declared.entries.Write.{Write}
use Rattle.std.proofs.Common.{Bor}
use Rattle.std.specs.Option.{option_copied}
use Rattle.json_doc.specs.declared.node.Node.{Node}
use Rattle.json_doc.specs.Tree.{Tree}
use Rattle.json_doc.specs.View.{node_tree}
use Rattle.json_doc.specs.Reading.{IsDocument}
use Rattle.json_doc.specs.System.{with_system}
use Rattle.repl_messages.specs.declared.revision.Revision.{Revision}
use Rattle.rev_tree.specs.Documents.{deletes}
use Rattle.sync_syntax.specs.declared.tree.Named.{Named}
use Rattle.sync_syntax.specs.declared.tree.Program.{Program}
use Rattle.sync_values.specs.declared.fault.Stop.TheVariants as stop
use Rattle.sync_values.specs.Found.{Found}
use Rattle.sync_meaning.specs.declared.effects.Effects.{Effects}
use Rattle.sync_meaning.specs.Laws.{AreEffects, EffectsAreLawful, OldIsNotAsked}
use Rattle.sync_meaning.specs.Meaning.{meaning}
use Rattle.sync_eval.specs.declared.verdict.Verdict.{Verdict}
use Rattle.sync_eval.specs.declared.verdict.Verdict.TheVariants.{Accept, Deny, Memory}
use Rattle.sync_eval.specs.Verdicts.{verdict}
use Rattle.doc_board.specs.Boards.{board_of}
use Rattle.doc_board.specs.Judging.{IsOldTree, IsSaid, IsTreeOf, board_base, body_or_empty}
use Rattle.doc_board.specs.Recorded.{HasDocument}
use Rattle.doc_board.specs.State.{State}
use Rattle.board_steps.specs.declared.judging.Basis.{Basis}
use Rattle.board_steps.specs.Verdicts.{IsVerdict, IsOldBody, IsSaidOfDocument, IsSaidOn, IsBasis}
use Rattle.board_steps.proofs.Braces.{braces_are}

-- ---- verdicts

abbrev is_memory : Verdict → Bool
is_memory (Accept e) = false
is_memory (Deny rule) = false
is_memory Memory = true

abbrev said_by : Verdict → Found Effects
said_by (Accept e) = Ok e
said_by (Deny rule) = Err (stop.Deny rule)
said_by Memory = Err stop.Memory

said_by_verdict : (m : Found Effects) → said_by (verdict m) ≡ m
said_by_verdict (Ok e) = refl
said_by_verdict (Err (stop.Deny rule)) = refl
said_by_verdict (Err stop.Memory) = refl

-- a verdict that is that of a meaning, but for memory, says what is meant
pub verdict_is : (says : Found Effects → Type 0) (v : Verdict) (m : Found Effects) → (v ≢ Memory → v ≡ verdict m) → says m → IsVerdict says v
verdict_is says (Accept e) m h meant =
    subst says (sym (said_by_verdict m) ∙ ap said_by (sym (h (λ p. true≢false (sym (ap is_memory p)))))) meant
verdict_is says (Deny rule) m h meant =
    subst says (sym (said_by_verdict m) ∙ ap said_by (sym (h (λ p. true≢false (sym (ap is_memory p)))))) meant
verdict_is says Memory m h meant = tt

-- the trees of documents behind references
pub trees_behind : (o : Option (Bor Node)) → option_map (λ d. node_tree d) (option_copied o) ≡ option_map (λ d. node_tree d.now) o
trees_behind None = refl
trees_behind (Some d) = refl

-- ---- the document before

-- a body that is a document has a tree, with its identifier and the deleted mark
some_old : (body : Option (List ℕ)) (deleted : Bool) (id : List ℕ) → IfSome body (λ b. HasDocument b) → (old : Option Tree) × IsOldBody body deleted id old
some_old None deleted id there = (None, refl)
some_old (Some b) deleted id there = (Some (with_system id deleted there.0), (with_system id deleted there.0, (there.0, there.1, refl), refl))

none_there : (second : Option Named) → is_some second ≡ false → second ≡ None
none_there None e = refl
none_there (Some n) e = absurd (true≢false e)

-- what a program of one parameter says without a document before it says with each
pub said_without_old : (law : OldIsNotAsked) (program : Program) (id : List ℕ) (document : Tree) (basis : Basis) (v : Verdict)
    → is_some program.second ≡ false → IfSome basis.old (λ b. HasDocument b)
    → (v ≢ Memory → v ≡ verdict (meaning program document None basis.context)) → IsVerdict (IsSaidOfDocument program id document basis) v
said_without_old law program id document basis v one documents judged =
    let there = some_old basis.old basis.old_deleted id documents in
    verdict_is (IsSaidOfDocument program id document basis) v (meaning program document None basis.context) judged (record {
      old = there.0;
      is_old = there.1;
      is_meant = law program document there.0 basis.context (none_there program.second one);
    })

-- ---- bodies

-- a body, or `{}` in its place, is the same document
pub same_document : (body : List ℕ) (doc : Tree) → IsDocument body doc → IsDocument (body_or_empty body) doc
same_document [] doc (ms, reads, plain, is) = braces_are ms doc reads plain is
same_document (b ∷ bytes) doc is = is

on_document : (program : Program) (r : Revision) (basis : Basis) (document : Tree) (said : Found Effects) → IsTreeOf (body_or_empty r.body) r.doc r.deleted document → IsSaidOfDocument program r.doc document basis said → IsSaidOn program r basis said
on_document program r basis document said is on = record { document = document; old = on.old; is_document = is; is_old = on.is_old; is_meant = on.is_meant }

-- what is said of the revision's document, with its identifier and the deleted mark, is said of the revision
pub said_by_document : (program : Program) (r : Revision) (basis : Basis) (document : Tree) (v : Verdict) → IsTreeOf (body_or_empty r.body) r.doc r.deleted document → IsVerdict (IsSaidOfDocument program r.doc document basis) v → IsVerdict (IsSaidOn program r basis) v
said_by_document program r basis document (Accept effects) is said = on_document program r basis document (Ok effects) is said
said_by_document program r basis document (Deny rule) is said = on_document program r basis document (Err (stop.Deny rule)) is said
said_by_document program r basis document Memory is said = tt

old_tree : (o : Option Write) (id : List ℕ) (old : Option Tree) → IsOldBody (option_map (λ w. w.body) o) (deletes o) id old → IsOldTree o id old
old_tree None id old h = h
old_tree (Some w) id old h = h

-- what is said on a basis that is that of a board is said by the board
pub said_on : (s : State) (program : Program) (by : Option (List ℕ)) (r : Revision) (basis : Basis) (said : Found Effects) → IsBasis s by r basis → IsSaidOn program r basis said → IsSaid program by r (board_of s) said
said_on s program by r basis said is on =
    let base : Option Write = board_base (board_of s) r.doc r.ancestors in
    let B : Option (List ℕ) → Type 0 = λ body. IsOldBody body basis.old_deleted r.doc on.old in
    let D : Bool → Type 0 = λ deleted. IsOldBody (option_map (λ w. w.body) base) deleted r.doc on.old in
    record {
      document = on.document;
      old = on.old;
      context = basis.context;
      is_document = on.is_document;
      is_old = old_tree base r.doc on.old (subst D is.old_deleted (subst B is.old on.is_old));
      is_context = is.context;
      is_meant = on.is_meant;
    }

-- the effects with which a program accepts are in their grammars
pub accepted_effects : EffectsAreLawful → (program : Program) (r : Revision) (basis : Basis) (e : Effects) → IsSaidOn program r basis (Ok e) → AreEffects e
accepted_effects lawful program r basis e on = lawful 100000 program on.document on.old basis.context e on.is_meant

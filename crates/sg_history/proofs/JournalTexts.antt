-- a journal's lines and its entries
use Rattle.std.proofs.Common.{◌≡◌, ℕ, true, List, [], ◌∷◌, ◌++◌, reverse, refl, sym, ap, ◌∙◌, subst, append_assoc, Option}
use Rattle.std.proofs.lemmas.List.{append-nil}
use Rattle.std.proofs.lemmas.List.Concat.{flat_map-cons}
use Rattle.sg_names.specs.Grammar.{lacks}
use Rattle.sg_history.specs.declared.entries.Entry.{Entry}
use Rattle.sg_history.specs.BadLine.{journal_lines}
use Rattle.sg_history.specs.Files.{AreSaid, IsFileOf}
use Rattle.sg_history.specs.History.{History}
use Rattle.sg_history.specs.Journal.{IsNext, IsRecord, header_of, is_limit, line_of, lines_of, Spells, title_of}
use Rattle.sg_history.specs.Pieces.{pieces}
use Rattle.sg_history.proofs.FileLaws.{reversed}
use Rattle.sg_history.proofs.FileTexts.{file_are, file_said, file_text, said_are, said_text}
use Rattle.sg_history.proofs.LineTexts.{joined_pieces, line_whole}
use Rattle.sg_history.proofs.PieceLemmas.{pieces-cut}
use Rattle.sg_history.proofs.Titles.{title_one, title_whole}

record_rest : (newer older : List Entry) → IsRecord (newer ++ older) → IsRecord older
record_rest [] older h = h
record_rest (e ∷ newer) older h = record_rest newer older h.1

lines_cons : (e : Entry) (es : List Entry) → lines_of (e ∷ es) ≡ line_of e ++ 10 ∷ lines_of es
lines_cons e es = flat_map-cons (λ x. line_of x ++ 10 ∷ []) e es ∙ append_assoc (line_of e) (10 ∷ []) (lines_of es)

-- entries that may follow these
abbrev MayFollow : List Entry → List Entry → Type 0
MayFollow older es = IsRecord older → IsRecord (reverse es ++ older)

follow_more : (older : List Entry) (line : List ℕ) (e : Entry) (es : List Entry) → IsNext older e × (line ≡ line_of e) → MayFollow (e ∷ older) es → MayFollow older (e ∷ es)
follow_more older line e es says later r = subst IsRecord (reversed e es older) (later (says.0, r))

abbrev DoFollow : List Entry → List Entry → Type 0
DoFollow older es = IsRecord (reverse es ++ older)

next_of : (older : List Entry) (e : Entry) (es : List Entry) → DoFollow older (e ∷ es)
    → (lacks 10 (line_of e) ≡ true) × (IsNext older e × (line_of e ≡ line_of e)) × DoFollow (e ∷ older) es
next_of older e es r =
    let whole = subst IsRecord (sym (reversed e es older)) r in
    let next = (record_rest (reverse es) (e ∷ older) whole).0 in
    (line_whole e next.grammar, (next, refl), whole)

-- the text of a header and of lines
spelled_with : (bytes first : List ℕ) (limit : Option ℕ) (es : List Entry) → first ≡ title_of limit → bytes ≡ first ++ 10 ∷ lines_of es
    → bytes ≡ header_of limit ++ lines_of es
spelled_with bytes first limit es title is =
    is ∙ ap (λ (f : List ℕ). f ++ 10 ∷ lines_of es) title ∙ sym (append_assoc (title_of limit) (10 ∷ []) (lines_of es))

-- a journal is the file of its entries
pub spelled_file : (bytes : List ℕ) (es : List Entry) → IsFileOf journal_lines bytes es → (limit : Option ℕ) × Spells bytes (record { limit = limit; entries = es })
spelled_file bytes es is =
    let text = file_text journal_lines line_of lines_of refl lines_cons (λ older line e says. says.1) bytes es is in
    let title = text.1 in (
      title.0,
      (
        title.1,
        subst IsRecord (append-nil (reverse es))
            (file_are journal_lines line_of lines_of refl lines_cons MayFollow (λ older r. r) follow_more (pieces 10 bytes) es is tt),
        spelled_with bytes text.0 title.0 es title.2 text.2,
      ),
    )

pub file_spelled : (bytes : List ℕ) (h : History) → Spells bytes h → IsFileOf journal_lines bytes h.entries
file_spelled bytes h is =
    file_said journal_lines line_of lines_of refl lines_cons DoFollow next_of bytes (title_of h.limit) h.entries
    (is.2 ∙ append_assoc (title_of h.limit) (10 ∷ []) (lines_of h.entries)) (h.limit, is.0, refl) (title_whole h.limit is.0)
    (subst IsRecord (sym (append-nil (reverse h.entries))) is.1) refl

-- lines behind a header
pub spelled_behind : (bytes lines : List ℕ) (limit : Option ℕ) (es : List Entry) → is_limit limit ≡ true → bytes ≡ header_of limit ++ lines
    → AreSaid journal_lines (pieces 10 lines) es → Spells bytes (record { limit = limit; entries = es })
spelled_behind bytes lines limit es fits is said = (
  fits,
  subst IsRecord (append-nil (reverse es))
      (said_are journal_lines line_of lines_of refl lines_cons MayFollow (λ older r. r) follow_more [] es (pieces 10 lines) ([] ∷ []) said.0 tt),
  is ∙ ap (λ (l : List ℕ). header_of limit ++ l)
      (sym (joined_pieces 10 lines) ∙ said_text journal_lines line_of lines_of refl lines_cons (λ older line e says. says.1) [] es (pieces 10 lines) said.0),
)

-- the pieces of a text behind a header
pub header_cut : (bytes lines : List ℕ) (limit : Option ℕ) → is_limit limit ≡ true → bytes ≡ header_of limit ++ lines → pieces 10 bytes ≡ title_of limit ∷ pieces 10 lines
header_cut bytes lines limit fits is =
    ap (pieces 10) (is ∙ append_assoc (title_of limit) (10 ∷ []) lines) ∙ pieces-cut 10 (title_of limit) lines (title_whole limit fits)

-- a text is that of one limit
pub limit_one : (bytes : List ℕ) (g h : History) → Spells bytes g → Spells bytes h → g.limit ≡ h.limit
limit_one bytes g h one other =
    let cut = header_cut bytes (lines_of g.entries) g.limit one.0 one.2 in
    let again = header_cut bytes (lines_of h.entries) h.limit other.0 other.2 in
    title_one g.limit h.limit one.0 other.0 (heads (title_of g.limit) (title_of h.limit) _ _ (sym cut ∙ again))
  where
    heads : (a b : List ℕ) (more other : List (List ℕ)) → a ∷ more ≡ b ∷ other → a ≡ b
    heads a b more other e = cc

-- Tokens that are put one after the other.
use Rattle.std.proofs.Common.{◌≡◌, List, [], ◌∷◌, ◌++◌, refl}
use Rattle.sync_tokens.specs.declared.token.Kind.{Kind}
use Rattle.sync_print.specs.declared.printer.Printer.{Printer}
use Rattle.sync_print.specs.Spelling.{put, put_all}

pub put_both : (ks ls : List Kind) (p : Printer) → put_all (ks ++ ls) p ≡ put_all ls (put_all ks p)
put_both [] ls p = refl
put_both (k ∷ ks) ls p = put_both ks ls (put k p)

-- boards that come after others
use Rattle.std.proofs.Common.{ℕ, ◌+◌, ◌-◌, ◌*◌, ◌≤◌, ◌++◌, List, [], refl, sym, ap, ◌∙◌, arith, append_assoc}
use Rattle.std.proofs.lemmas.List.{append-nil}
use Rattle.sg_history.specs.declared.entries.Entry.{Entry}
use Rattle.sg_history.specs.History.{Extends}
use Rattle.sg_history.specs.Board.{BoardState, SideEntry, SideValue, Follows, SideFollows, board_book, board_count, After}
use Rattle.sg_history.proofs.Books.{later_itself, later_again}

pub extends_itself : (h : List Entry) → Extends h h
extends_itself h = ([], sym (append-nil h))

pub extends_again : (a b c : List Entry) → Extends a b → Extends b c → Extends a c
extends_again a b c first second =
    (first.0 ++ second.0, second.1 ∙ ap (λ (l : List Entry). l ++ second.0) first.1 ∙ append_assoc a first.0 second.0)

follows_again : (a b c : SideValue) → Follows a b → Follows b c → Follows a c
follows_again a b c first second =
    record {
      number = omega (arith, first.number, second.number);
      bytes = λ same. first.bytes (omega (arith, first.number, second.number, same)) ∙ second.bytes (omega (arith, first.number, second.number, same));
    }

side_itself : (side : List SideEntry) → SideFollows side side
side_itself side text old there = (old, there, record { number = omega arith; bytes = λ same. refl })

side_again : (a b c : List SideEntry) → SideFollows a b → SideFollows b c → SideFollows a c
side_again a b c first second text old there =
    let next = first text old there in
    let last = second text next.0 next.1 in
    (last.0, last.1, follows_again old next.0 last.0 next.2 last.2)

pub after_itself : (b : BoardState) → After b b
after_itself b =
    record {
      limit = refl;
      book = later_itself (board_book b);
      log = extends_itself b.log;
      count = omega arith;
      bytes = omega arith;
      side = side_itself b.side;
      faults = omega arith;
    }

pub after_again : (a b c : BoardState) → After a b → After b c → After a c
after_again a b c first second =
    record {
      limit = first.limit ∙ second.limit;
      book = later_again (board_book a) (board_book b) (board_book c) first.book second.book;
      log = extends_again a.log b.log c.log first.log second.log;
      count = sums.0;
      bytes = sums.1;
      side = side_again a.side b.side c.side first.side second.side;
      faults = omega (arith, first.faults, second.faults);
    }
  where
    counted : (x y z m n o : ℕ) → x ≤ y → y ≤ z → n ≤ m + 20971520 * (y - x) → o ≤ n + 20971520 * (z - y) → (x ≤ z) × (o ≤ m + 20971520 * (z - x))
    counted x y z m n o h g p q = (omega (arith, h, g), omega (arith, h, g, p, q))

    sums : (board_count a ≤ board_count c) × (c.bytes ≤ a.bytes + 20971520 * (board_count c - board_count a))
    sums = counted (board_count a) (board_count b) (board_count c) a.bytes b.bytes c.bytes first.count second.count first.bytes second.bytes

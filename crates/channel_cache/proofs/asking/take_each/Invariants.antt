use Rattle.std.proofs.Common.{◌≡◌, ◌&&◌, not, ℕ, List, take}
use Rattle.sg_history.specs.declared.entries.Entry.{Entry}
use Rattle.sg_history.specs.History.{among}
use Rattle.channel_cache.specs.inner.Asking.{AreFull, Asks, names_of}
use Rattle.channel_cache.specs.Sequences.{is_kept}
use Rattle.channel_cache.proofs.asking.take_each.Given as goal

-- those so far are taken
abbrev pub invariant-loop-channel : goal.invariant-loop-channel
invariant-loop-channel l = record {
  cap : l.lists.cap ≡ l.initial.lists.cap;
  keys : names_of l.lists.entries ≡ names_of l.initial.lists.entries;
  wanted : (c : List ℕ) → is_kept l.wanted.entries c ≡ (is_kept l.initial.wanted.entries c && not (among (take l.channel-index l.channels) c));
  asks : (es : List Entry) → AreFull es l.initial.wanted.entries → Asks es l.initial.lists.entries l.initial.wanted.entries l.initial.found.items l.channels
      → AreFull es l.wanted.entries × Asks es l.lists.entries l.wanted.entries l.found.items l.channels;
}

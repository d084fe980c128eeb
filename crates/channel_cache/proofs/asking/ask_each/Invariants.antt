use Rattle.std.proofs.Common.{◌≡◌, ◌≤◌, ◌+◌, List, [], drop, take}
use Rattle.sg_history.specs.declared.entries.Entry.{Entry}
use Rattle.sg_history.specs.History.{past}
use Rattle.channel_cache.specs.Asked.{asked_after_all, refills_of}
use Rattle.channel_cache.specs.inner.Asking.{Asks, HasNothing, names_of}
use Rattle.channel_cache.specs.Stands.{IndexesTo}
use Rattle.channel_cache.proofs.asking.ask_each.Given as goal

-- what is left is asked for from there on
abbrev pub invariant-loop-channel : goal.invariant-loop-channel
invariant-loop-channel l = record {
  cap : l.lists.cap ≡ l.initial.lists.cap;
  room : l.wanted.cap ≡ l.initial.wanted.cap;
  nothing : HasNothing l.wanted.entries;
  idle : l.refills ≡ 0 → l.wanted.entries ≡ l.initial.wanted.entries;
  bound : l.refills ≤ l.channel-index;
  refills : l.refills + refills_of l.initial.lists.cap (drop l.channel-index l.channels) (names_of l.lists.entries) ≡ refills_of l.initial.lists.cap l.channels (names_of l.initial.lists.entries);
  names : asked_after_all l.initial.lists.cap (drop l.channel-index l.channels) (names_of l.lists.entries) ≡ asked_after_all l.initial.lists.cap l.channels (names_of l.initial.lists.entries);
  asks : (entries : List Entry) → IndexesTo l.index entries l.to
      → Asks (past entries l.to) l.initial.lists.entries l.initial.wanted.entries l.initial.found.items []
      → Asks (past entries l.to) l.lists.entries l.wanted.entries l.found.items (take l.channel-index l.channels);
}

-- what the words of `feed` were read as. Only proofs need this.
use Rattle.command_line.specs.declared.feed_words.FeedRequest.{FeedRequest}
use Rattle.command_line.specs.FeedWords.{FeedWords}

abbrev pub feed_of : FeedRequest → FeedWords
feed_of request = record { journal = request.journal.now; user = request.user; since = request.since; options = request.options }

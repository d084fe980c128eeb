-- what the words of `replay` were read as. Only proofs need this.
use Rattle.std.specs.Prelude.{map}
use Rattle.command_line.specs.declared.replay_words.ReplayRequest.{ReplayRequest}
use Rattle.command_line.specs.ReplayWords.{ReplayWords}

abbrev pub replay_of : ReplayRequest → ReplayWords
replay_of request =
    record { config = request.config.now; admin = request.admin.now; sessions = map (λ s. s.now) request.sessions.items }

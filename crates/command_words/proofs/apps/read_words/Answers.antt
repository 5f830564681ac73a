-- The words are taken, or not.
use Rattle.std.proofs.Common.{map, string_bytes}
use Rattle.clap.specs.Simple.{app_of}
use Rattle.command_words.proofs.Taking.{read, simple_of, unread}
use Rattle.command_words.proofs.apps.read_words.Goals as goal

pub returns-in-Ok-clause-read : goal.returns-in-Ok-clause-read
returns-in-Ok-clause-read c = read (app_of c.args.command) (map string_bytes c.args.words.now) c.in-Ok.matches (simple_of (app_of c.args.command) c.requires.simple)
    (c.in-Ok.ensures.kinds c.requires.simple) c.in-Ok.ensures.matches

pub returns-in-Err-clause-unread : goal.returns-in-Err-clause-unread
returns-in-Err-clause-unread c = unread (app_of c.args.command) (map string_bytes c.args.words.now) c.in-Err.error c.cause.result c.cause.ensures (c.in-Err.ensures.kinds c.requires.simple)

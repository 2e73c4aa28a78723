-- The commands of the code as those of the model.
use Rattle.std.specs.Prelude.{◌≡◌, Result, Ok, Err, IfErr}
use Rattle.std.proofs.Math.Option.{Option, none, some}
use Rattle.model.specs.Commands as model
use Rattle.model.specs.Batch.{command_of}
use Rattle.links.specs.declared.types.Refusal.{Refusal}
use Rattle.links.specs.declared.types.Refusal.TheVariants.{BadRecord}
use Rattle.links.specs.Sides.{side_of}
use Rattle.records.specs.declared.types.Record.{Record}
use Rattle.records.specs.Records.{record_in}
use Rattle.queries.specs.Queries.{bound_command, step_command}
use Rattle.changes.specs.Changes.{insert_next}
use Rattle.commands.specs.declared.types.Query.{Query}
use Rattle.commands.specs.declared.types.Query.TheVariants as query
use Rattle.commands.specs.declared.types.Change.{Change}
use Rattle.commands.specs.declared.types.Change.TheVariants as change
use Rattle.commands.specs.declared.types.Command.{Command}
use Rattle.commands.specs.declared.types.Command.TheVariants as command

abbrev pub asked : Query → model.Command
asked (query.Find k) = model.find k.0
asked (query.Bound side kind k) = bound_command (side_of side) kind k.0
asked (query.Neighbour side p) = step_command (side_of side) p.0

abbrev pub changing : Change → model.Command
changing (change.Insert s k) = model.insert s.0 k.0
changing (change.OrInsert s k) = model.or_insert s.0 k.0
changing (change.Remove p) = model.remove p.0
changing (change.InsertBeside side p s k) = insert_next (side_of side) p.0 s.0 k.0
changing (change.ReplaceWith p s k) = model.replace_with p.0 s.0 k.0
changing change.Clear = model.clear

abbrev pub told : Command → model.Command
told (command.Query q) = asked q
told (command.Change c) = changing c

-- what a record is read as: the command that it names, or BadRecord where it names none
abbrev pub named : Result Command Refusal → Option model.Command
named (Ok c) = some (told c)
named (Err why) = none

pub record Names (order : Record) (r : Result Command Refusal) : Type 0 where
  pub is : named r ≡ command_of (record_in order)
  pub refusal_is : IfErr r (λ why. why ≡ BadRecord)

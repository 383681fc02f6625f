-- Entries of fitted routines.
use Rattle.std.specs.Prelude.{Some, None, Option}
use Rattle.records.specs.declared.entry.Entry.{Entry}
use Rattle.records.specs.Routine.{Digest, digest_of}

abbrev pub told : Option Entry → Option Digest
told None = None
told (Some e) = Some (digest_of e)

use Rattle.std.specs.Prelude.{ℕ, ◌+◌, ◌-◌}
use Rattle.second.specs.declared.usage.Use.{Use}
use Rattle.second.specs.declared.usage.Use.TheVariants.{Keeps, Drops, Adds}

-- how many bytes an instruction needs on a stack
abbrev pub needed : Use → ℕ
needed (Keeps need) = need
needed (Drops need less) = need
needed (Adds need more) = need

-- how many it leaves of so many
abbrev pub left_of : Use → ℕ → ℕ
left_of (Keeps need) depth = depth
left_of (Drops need less) depth = depth - less
left_of (Adds need more) depth = depth + more

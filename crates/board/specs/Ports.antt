-- Ports: input and output addresses, all live.
use Rattle.std.specs.Prelude.{◌≡◌, ℕ, Bool, false, ◌&&◌, List, map, length, drop, find, vec_items, Option, nat_le, ◌==◌, slice_index, slice_set}
use Rattle.std.specs.List.{position_or_len, list_any}
use Rattle.std.specs.Option.{option_map}
use Rattle.std.specs.Global.{Vec}
use Rattle.board.specs.Meaning.{Meaning}
use Rattle.board.specs.Addresses.{contains, distinct}
use Rattle.board.specs.declared.ports.Output.{Output}

-- the input addresses, the outputs each with its latest byte, and the samples that are left
pub record Ports : Type 0 where
  pub inputs : List ℕ
  pub outputs : List Output
  pub samples : List ℕ

abbrev pub with_samples : Ports → List ℕ → Ports
with_samples p xs = record { inputs = p.inputs; outputs = p.outputs; samples = xs }

abbrev pub with_outputs : Ports → List Output → Ports
with_outputs p os = record { inputs = p.inputs; outputs = os; samples = p.samples }

-- the output's address is this one
abbrev pub is_at : ℕ → Output → Bool
is_at a o = o.at == a

abbrev pub ports_meaning : Meaning Ports
ports_meaning = record {
  readable = λ p a. contains p.inputs a;
  writable = λ p a. list_any (is_at a) p.outputs;
  held = λ p a. false;
  -- no address is held
  byte = λ p a. 0;
  -- the next sample, and zero where none is left
  live = λ p a. slice_index p.samples 0;
  after_read = λ p a. with_samples p (drop 1 p.samples);
  after_write = λ p a v. with_outputs p (slice_set p.outputs (position_or_len (is_at a) p.outputs) (record { at = a; latest = v }));
}

-- the byte that an output keeps
abbrev pub latest_of : Ports → ℕ → Option ℕ
latest_of p a = option_map (λ o. o.latest) (find (is_at a) p.outputs)

abbrev pub silent : ℕ → Output
silent a = record { at = a; latest = 0 }

-- at most 16 of each, and no output named twice
abbrev pub ports_fit : List ℕ → List ℕ → Bool
ports_fit ins outs = distinct outs && (nat_le (length ins) 16 && nat_le (length outs) 16)

-- ports as they are made: the outputs all zero, and no sample handed out
pub record NewPorts (ins outs : List ℕ) (samples : Vec ℕ) (p : Ports) : Type 0 where
  pub in_list : p.inputs ≡ ins
  pub out_list : p.outputs ≡ map silent outs
  pub buffer : p.samples ≡ vec_items samples

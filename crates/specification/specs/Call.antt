-- Document 01, "Runs": "A call is its directive, its caller and its arguments, with a message's bytes."
use Rattle.std.specs.Prelude.{ℕ, Bool, true, List, [], ◌∷◌, map, ◌&&◌, ltb}
use Rattle.ranks.specs.Lists.{all_true}
use Rattle.octets.specs.LittleEndian.{byte_values}

-- what is done to a queue that is named by its id
pub data Operation : Type 0 where
  delete : Operation
  send : (message : List ℕ) → Operation
  urgent : (message : List ℕ) → Operation
  broadcast : (message : List ℕ) → Operation
  receive : (option ticks : ℕ) → Operation
  get_number_pending : Operation
  flush : Operation

pub data Directive : Type 0 where
  create : (name limit max_size attributes : ℕ) → Directive
  ident : (name share : ℕ) → Directive
  on_queue : (id : ℕ) → Operation → Directive

pub data Call : Type 0 where
  call : (caller : ℕ) → Directive → Call
  tick : Call

-- ---- Arguments in range: every number of a call is of 32 bits, and a message is of bytes.

abbrev is_word : ℕ → Bool
is_word n = ltb n 4294967296

abbrev is_byte : ℕ → Bool
is_byte n = ltb n byte_values

unfoldable pub operation_in_range : Operation → Bool
operation_in_range delete = true
operation_in_range (send message) = all_true (map is_byte message)
operation_in_range (urgent message) = all_true (map is_byte message)
operation_in_range (broadcast message) = all_true (map is_byte message)
operation_in_range (receive option ticks) = all_true (map is_word (option ∷ ticks ∷ []))
operation_in_range get_number_pending = true
operation_in_range flush = true

unfoldable pub directive_in_range : Directive → Bool
directive_in_range (create name limit max_size attributes) = all_true (map is_word (name ∷ limit ∷ max_size ∷ attributes ∷ []))
directive_in_range (ident name share) = all_true (map is_word (name ∷ share ∷ []))
directive_in_range (on_queue id operation) = is_word id && operation_in_range operation

unfoldable pub arguments_in_range : Call → Bool
arguments_in_range (call caller directive) = is_word caller && directive_in_range directive
arguments_in_range tick = true

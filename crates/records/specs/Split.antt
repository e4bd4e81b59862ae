-- Document 01, "Tables": which share owns which slots, buffers and tasks. No other definition says so.
use Rattle.std.specs.Prelude.{ℕ, ◌+◌, Bool, ◌&&◌, List, [], ◌∷◌, map, length, get_or, leb, ltb}
use Rattle.ranks.specs.Lists.{first_true}

-- `count` records from number `from` on
pub record Block : Type 0 where
  pub from : ℕ
  pub count : ℕ

-- what one share owns
pub record Share : Type 0 where
  pub slots : Block
  pub buffers : Block
  pub tasks : Block

abbrev share : (slot slots buffer buffers task tasks : ℕ) → Share
share slot slots buffer buffers task tasks =
    record {
      slots = record { from = slot; count = slots };
      buffers = record { from = buffer; count = buffers };
      tasks = record { from = task; count = tasks };
    }

-- "Share p (0 to 3) owns slots 4p to 4p+3, buffers 16p to 16p+15, tasks 8p to 8p+7."
abbrev pub split : List Share
split = share 0 4 0 16 0 8 ∷ share 4 4 16 16 8 8 ∷ share 8 4 32 16 16 8 ∷ share 12 4 48 16 24 8 ∷ []

abbrev pub share_count : ℕ
share_count = length split

abbrev pub contains : Block → ℕ → Bool
contains b i = leb b.from i && ltb i (b.from + b.count)

-- the share that owns a slot, a buffer, a task
unfoldable pub share_of_slot : ℕ → ℕ
share_of_slot i = first_true (map (λ s. contains s.slots i) split)

unfoldable pub share_of_buffer : ℕ → ℕ
share_of_buffer b = first_true (map (λ s. contains s.buffers b) split)

unfoldable pub share_of_task : ℕ → ℕ
share_of_task t = first_true (map (λ s. contains s.tasks t) split)

-- "In each share the limits of live queues sum to at most 16": to its buffers.
unfoldable pub share_limit : ℕ → ℕ
share_limit p = get_or (map (λ s. s.buffers.count) split) p 0

-- the first of the buffers that a share owns
unfoldable pub first_buffer : ℕ → ℕ
first_buffer p = get_or (map (λ s. s.buffers.from) split) p 0

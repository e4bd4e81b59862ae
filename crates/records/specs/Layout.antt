-- Document 01, "Tables": how many records each table has, how many bytes a record has, where its fields stand, where a table stands in an
-- image, and what an id is.
use Rattle.std.specs.Prelude.{ℕ, ◌+◌, ◌*◌, ◌/◌, ◌%◌}

-- "8-127 data"; "16-135 the task's receive buffer"
abbrev pub capacity : ℕ
capacity = 120

-- The place of a field in its record. "0 owner queue (slot+1, 0 free); 1 rank; 2 length; 3-7 zero; 8-127 data"
abbrev pub buffer_position : ℕ
buffer_position = 0

abbrev pub buffer_length : ℕ
buffer_length = 2

abbrev pub buffer_data : ℕ
buffer_data = 8

-- "1 queue (slot+1, 0 none); 2 rank"; "5 length"; "16-135 the task's receive buffer"
abbrev pub task_position : ℕ
task_position = 1

abbrev pub task_length : ℕ
task_length = 5

abbrev pub task_data : ℕ
task_data = 16

-- "limit 1 to 16"
abbrev pub largest_limit : ℕ
largest_limit = 16

-- "Queues: 16 records of 16 bytes." "Pool: 64 records of 128 bytes." "Tasks: 32 records of 136 bytes."
abbrev pub slot_count : ℕ
slot_count = 16

abbrev pub queue_width : ℕ
queue_width = 16

abbrev pub queues_size : ℕ
queues_size = slot_count * queue_width

abbrev pub buffer_count : ℕ
buffer_count = 64

abbrev pub buffer_width : ℕ
buffer_width = buffer_data + capacity

abbrev pub pool_size : ℕ
pool_size = buffer_count * buffer_width

abbrev pub task_count : ℕ
task_count = 32

abbrev pub task_width : ℕ
task_width = task_data + capacity

abbrev pub tasks_size : ℕ
tasks_size = task_count * task_width

-- "An image is the three tables in this order, 12,800 bytes.": where each table stands in it, its size, and how many records it has
abbrev pub queues_place : ℕ
queues_place = 0

abbrev pub pool_place : ℕ
pool_place = queues_place + queues_size

abbrev pub tasks_place : ℕ
tasks_place = pool_place + pool_size

abbrev pub image_size : ℕ
image_size = tasks_place + tasks_size

abbrev pub image_record_count : ℕ
image_record_count = slot_count + buffer_count + task_count

-- "Takes the lowest free slot of the caller's share with generation below 65,535"
abbrev pub last_generation : ℕ
last_generation = 65535

-- "An id is generation x 16 + slot."
unfoldable pub id_of : (generation slot : ℕ) → ℕ
id_of generation slot = generation * slot_count + slot

abbrev pub slot_of : (id : ℕ) → ℕ
slot_of id = id % slot_count

abbrev pub generation_of : (id : ℕ) → ℕ
generation_of id = id / slot_count

-- The picture in the Trace Event Format, a document of JSON: a lane is a thread, a bar a complete
-- event.
use Rattle.std.specs.Prelude.{ℕ, ◌+◌, Bool, List, [], ◌∷◌, ◌++◌, Option, Some, None, if◌then◌else◌}
use Rattle.std.specs.Prelude.{codes, decimal, length, slice_index_or}
use Rattle.std.specs.List.{flat_map, join_by, range_with_len}
use Rattle.serde_json.specs.Data.{string}
use Rattle.serde_json.specs.Written.{compact_text}
use Rattle.waff_model.specs.Tree.{Node}
use Rattle.waff_model.specs.Versions.{has_clients}
use Rattle.waff_model.specs.declared.message.Version.{Version}
use Rattle.waff_assign.specs.Order.{affinity_name}
use Rattle.waff_plan.specs.Work.{Await, numbers}
use Rattle.waff_draw.specs.Kinds.{process_of, shown_row}
use Rattle.waff_draw.specs.Lanes.{is_among, lane_label, lane_of}
use Rattle.waff_draw.specs.Pieces.{joined, worker_name}
use Rattle.waff_draw.specs.Scene.{Scene, after_in, client_in, lanes_in, name_in, release_in}
use Rattle.waff_draw.specs.Scene.{shown_start, shown_ticks, work_of_scene}
use Rattle.waff_draw.specs.declared.events.Event.{Event}
use Rattle.waff_draw.specs.declared.lanes.Lane.{Lane}
use Rattle.waff_draw.specs.declared.lanes.LaneKind.{LaneKind}
use Rattle.waff_draw.specs.declared.lanes.LaneKind.TheVariants.{Affinity, Worker}

-- a process of this name, with its place
abbrev pub process_text : List ℕ → List ℕ → List ℕ
process_text process name =
    codes "{\"name\":\"process_name\",\"ph\":\"M\",\"pid\":" ++ process
    ++ codes ",\"args\":{\"name\":\"" ++ name ++ codes "\"}},\n"
    ++ codes "{\"name\":\"process_sort_index\",\"ph\":\"M\",\"pid\":" ++ process
    ++ codes ",\"args\":{\"sort_index\":" ++ process ++ codes "}}"

-- the start of the document, with the process whose threads are the lanes of affinities
unfoldable pub document_start : List ℕ
document_start = codes "{\"traceEvents\":[\n" ++ process_text (codes "1") (codes "affinities")

-- the process whose threads are the lanes of workers
abbrev pub workers_start : List ℕ
workers_start = codes ",\n" ++ process_text (codes "2") (codes "workers")

-- the name of a thread of a process, which is given as JSON, and its place
unfoldable pub thread_name : ℕ → ℕ → List ℕ → List ℕ
thread_name process thread name = joined (
    codes ",\n{\"name\":\"thread_name\",\"ph\":\"M\",\"pid\":" ∷ decimal process
    ∷ codes ",\"tid\":" ∷ decimal thread
    ∷ codes ",\"args\":{\"name\":" ∷ name ∷ codes "}}" ∷ [])

unfoldable pub thread_place : ℕ → ℕ → List ℕ
thread_place process thread = joined (
    codes ",\n{\"name\":\"thread_sort_index\",\"ph\":\"M\",\"pid\":" ∷ decimal process
    ∷ codes ",\"tid\":" ∷ decimal thread
    ∷ codes ",\"args\":{\"sort_index\":" ∷ decimal thread ∷ codes "}}" ∷ [])

-- the category of a message
abbrev pub category : Bool → List ℕ
category is_link = if is_link then codes "chain" else codes "message"

-- a complete event, as far as the release of its message: what runs from when for how long, in
-- which thread, and what is told of the message, with its name and that of its affinity as JSON
unfoldable pub event_entry : Event → List ℕ → List ℕ → List ℕ
event_entry event name affinity = joined (
    codes ",\n{\"name\":" ∷ name
    ∷ codes ",\"cat\":\"" ∷ category event.is_link
    ∷ codes "\",\"ph\":\"X\",\"ts\":" ∷ decimal event.start
    ∷ codes ",\"dur\":" ∷ decimal event.ticks
    ∷ codes ",\"pid\":" ∷ decimal event.process
    ∷ codes ",\"tid\":" ∷ decimal event.thread
    ∷ codes ",\"args\":{\"number\":" ∷ decimal event.message
    ∷ codes ",\"name\":" ∷ name
    ∷ codes ",\"affinity\":" ∷ affinity
    ∷ codes ",\"release\":" ∷ [])

-- a text as a string of JSON
abbrev pub quoted : List ℕ → List ℕ
quoted text = compact_text (string text)

abbrev pub thread_text : ℕ → ℕ → List ℕ → List ℕ
thread_text process thread name =
    thread_name process thread (quoted name) ++ thread_place process thread

-- the client of a message, which is given as JSON
abbrev pub client_entry : List ℕ → List ℕ
client_entry client = codes ",\"client\":" ++ client

-- that of a message, `-` too, where the version of the trace has clients
abbrev pub client_text : Version → List ℕ → List ℕ
client_text version client = if has_clients version then client_entry (quoted client) else []

-- the numbers of the messages that a message awaits by its list, where it has one
abbrev pub after_text : List Await → List ℕ
after_text [] = []
after_text (a ∷ more) =
    codes ",\"after\":[" ++ join_by (λ awaited. decimal awaited.message) (44 ∷ []) (a ∷ more) ++ codes "]"

-- a message of this name that runs in the affinity of that name, for this client, behind those of this list
abbrev pub event_text : Version → Event → List ℕ → List ℕ → List ℕ → List Await → List ℕ
event_text version event name affinity client after =
    event_entry event (quoted name) (quoted affinity) ++ decimal event.release
    ++ client_text version client ++ after_text after ++ codes "}}"

-- the thread of the lane in a row, which is one more than the row: 1 is the uppermost
abbrev pub affinity_thread : List Node → List Lane → ℕ → List ℕ
affinity_thread tree lanes row =
    thread_text 1 (row + 1) (lane_label tree (slice_index_or lanes row (lane_of 0 0)))

-- the thread of a worker, below this many others
abbrev pub worker_thread : ℕ → ℕ → List ℕ
worker_thread first worker = thread_text 2 (first + worker) (worker_name worker)

abbrev pub worker_threads : ℕ → Option ℕ → List ℕ
worker_threads first None = []
worker_threads first (Some k) =
    workers_start ++ flat_map (worker_thread first) (range_with_len 1 k)

-- the event of message n in a row of a process: it has the ticks that are shown
abbrev pub event_at : Scene → ℕ → ℕ → ℕ → Event
event_at scene process row n = record {
  message = n;
  process = process;
  thread = row + 1;
  start = shown_start scene n;
  ticks = shown_ticks scene n;
  release = release_in scene n;
  is_link = is_among scene.plan.summary.chain n;
}

-- its text
abbrev pub event_in : Scene → ℕ → ℕ → ℕ → List ℕ
event_in scene process row n =
    event_text scene.instance.trace.version (event_at scene process row n) (name_in scene n)
    (affinity_name scene.instance.tree scene.instance.assigned n) (client_in scene n) (after_in scene n)

-- the event of message n in its row, if it has one
abbrev pub event_where : Scene → ℕ → ℕ → Option ℕ → List ℕ
event_where scene process n None = []
event_where scene process n (Some row) = event_in scene process row n

-- the events of the messages that are shown and have a row among the lanes of a kind
abbrev pub events_of : Scene → LaneKind → List ℕ
events_of scene kind =
    flat_map (λ n. event_where scene (process_of kind) n (shown_row scene kind n))
    (numbers (work_of_scene scene))

-- what stands before the events of messages
abbrev pub threads_text : Scene → List ℕ
threads_text scene =
    document_start
    ++ flat_map (affinity_thread scene.instance.tree (lanes_in scene))
    (range_with_len 0 (length (lanes_in scene)))
    ++ worker_threads (length (lanes_in scene)) scene.plan.summary.workers

-- the document
abbrev pub events_text : Scene → List ℕ
events_text scene =
    threads_text scene ++ events_of scene Affinity ++ events_of scene Worker ++ codes "\n]}\n"

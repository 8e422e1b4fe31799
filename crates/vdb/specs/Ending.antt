-- How a run ends, its last line and its status.
use Rattle.std.specs.Prelude.{ℕ, if◌then◌else◌, List, [], ◌∷◌, ◌++◌, codes}
use Rattle.vdb_model.specs.declared.reply.Who.TheVariants.{Maker, Feed, Lane}
use Rattle.vdb_model.specs.declared.reply.Phase.TheVariants.{Plain}
use Rattle.vdb_model.specs.Lines.{line, number_text}
use Rattle.vdb_model.specs.NameText.{name_text}
use Rattle.vdb_model.specs.FaultText.{deploy_line, fault_line}
use Rattle.vdb.specs.declared.answering.Answers.{Answers}
use Rattle.vdb.specs.declared.answering.Answers.TheVariants as answers
use Rattle.vdb_session.specs.declared.parts.StartFault.{StartFault}
use Rattle.vdb_session.specs.declared.parts.StartFault.TheVariants as fault
use Rattle.vdb.specs.declared.reading.ReadEnd.{ReadEnd}
use Rattle.vdb.specs.declared.reading.ReadEnd.TheVariants as end
use Rattle.vdb.specs.declared.ending.Ending.{Ending}
use Rattle.vdb.specs.declared.ending.Ending.TheVariants as ending
use Rattle.vdb.specs.declared.words.Conn.{Conn}

abbrev pub start_ending : StartFault → Ending
start_ending (fault.Refused f) = ending.Deploy f
start_ending (fault.Failed lane) = ending.LaneFailed lane
start_ending fault.Memory = ending.Memory

-- a fault of a statement stands before the end of the reading
abbrev pub ending_of : ReadEnd → Answers → Ending
ending_of read (answers.LaneFailed lane) = ending.LaneFailed lane
ending_of read answers.SinkFailed = ending.SinkFailed
ending_of end.Whole (answers.Whole seen) = ending.Whole seen
ending_of end.TooLong (answers.Whole seen) = ending.TooLong
ending_of end.Failed (answers.Whole seen) = ending.FeedFailed
ending_of end.Memory (answers.Whole seen) = ending.Memory

abbrev pub status_of : Ending → ℕ
status_of (ending.Usage word) = 2
status_of (ending.Deploy f) = 3
status_of ending.MakerFailed = 4
status_of (ending.LaneFailed lane) = 4
status_of ending.FeedFailed = 4
status_of ending.SinkFailed = 4
status_of ending.Memory = 5
status_of ending.TooLong = 6
status_of (ending.Whole seen) = if seen.memory then 5 else (if seen.refused then 1 else 0)

-- the texts of the lanes' names, which are those of the connections
abbrev pub lane_texts : List Conn → List (List ℕ)
lane_texts [] = []
lane_texts (conn ∷ conns) = name_text conn.name ∷ lane_texts conns

abbrev pub last_line : List Conn → Ending → List ℕ
last_line conns (ending.Usage word) = line (codes "USAGE " ++ number_text word)
last_line conns (ending.Deploy f) = deploy_line f
last_line conns ending.MakerFailed = fault_line (lane_texts conns) Maker Plain
last_line conns (ending.LaneFailed lane) = fault_line (lane_texts conns) (Lane lane) Plain
last_line conns ending.FeedFailed = fault_line (lane_texts conns) Feed Plain
last_line conns ending.SinkFailed = []
last_line conns ending.Memory = line (codes "MEMORY")
last_line conns ending.TooLong = line (codes "TOO LONG")
last_line conns (ending.Whole seen) = []

-- What other crates cite of this one's proofs: they import no other file of them.
-- ---- Accounts: How each entry of a true journal is accounted for.
-- each entry of a true journal is accounted for
pub use Rattle.xc_turns.proofs.Accounts.{journal_accounts}
-- ---- Apart: A turn keeps what active transactions hold apart.
-- a turn keeps apart what active transactions hold
pub use Rattle.xc_turns.proofs.Apart.{apart_kept}
-- ---- Attempts: To each entry's job an attempt was left, turn by turn.
-- what enters had an attempt left
pub use Rattle.xc_turns.proofs.Attempts.{turn_leaves_attempts}
-- ---- Closings: Where each job has ended.
-- so it is true of the machine, and asked by the script
pub use Rattle.xc_turns.proofs.Closings.{journal_true}
-- the host was called by its entries, and by nothing else
pub use Rattle.xc_turns.proofs.Closings.{calls_true}
-- where each job has ended it has the end of its story
pub use Rattle.xc_turns.proofs.Closings.{ends_told}
-- where each job has ended the words are those that the journal left
pub use Rattle.xc_turns.proofs.Closings.{words_are_left}
-- ---- Completions: Where each job was done, each of its transactions has the one entry by which it was done with.
-- a job has passed no more transactions than the journal has entries
pub use Rattle.xc_turns.proofs.Completions.{passed_few}
-- a job isn't starved
pub use Rattle.xc_turns.proofs.Completions.{IsNotStarved}
-- of all entries
pub use Rattle.xc_turns.proofs.Completions.{all_go}
-- where all are done all is complete
pub use Rattle.xc_turns.proofs.Completions.{complete}
-- ---- CountedSums: Sums over active transactions, and counts of faults one after another.
-- what one adds, where there is one
pub use Rattle.xc_turns.proofs.CountedSums.{adds}
-- where one job is set its part goes, and the new one's comes
pub use Rattle.xc_turns.proofs.CountedSums.{sum_set}
-- ---- CountedTurns: Each row of the table of turns keeps the count of the host's faults that of the recorded ones.
-- the job's story, with what its phase says
pub use Rattle.xc_turns.proofs.CountedTurns.{story_in_phase}
-- an undoing one has no end of a late call
pub use Rattle.xc_turns.proofs.CountedTurns.{none_late}
-- a turn keeps the count
pub use Rattle.xc_turns.proofs.CountedTurns.{turn_keeps_count}
-- ---- GivenNumbers: Each active transaction's number is its own.
-- two active transactions of one number stand in one place
pub use Rattle.xc_turns.proofs.GivenNumbers.{given_once}
-- an active transaction's number is one of as many as have begun
pub use Rattle.xc_turns.proofs.GivenNumbers.{given_by_now}
-- ---- Grounding: A turn keeps each conflict and each revocation grounded: it names a holder, or an older transaction.
-- after a turn each conflict names a holder, and each revocation an older transaction
pub use Rattle.xc_turns.proofs.Grounding.{grounds_kept}
-- ---- Grown: More jobs, which have no transactions yet, after those of a station.
-- none has an active transaction
pub use Rattle.xc_turns.proofs.Grown.{AreIdle}
-- jobs that were started
pub use Rattle.xc_turns.proofs.Grown.{started_idle}
-- so all that are active were
pub use Rattle.xc_turns.proofs.Grown.{grown_active}
-- and still are
pub use Rattle.xc_turns.proofs.Grown.{grown_still}
-- the same ones are
pub use Rattle.xc_turns.proofs.Grown.{grown_actives}
-- ---- Halves: Where a journal leads in a script's run: what the plain machine tells of it, and what the script does.
-- what the machine tells of a job
pub use Rattle.xc_turns.proofs.Halves.{standing_in}
-- what the script does
pub use Rattle.xc_turns.proofs.Halves.{script_job_in}
-- where a journal led the machine
pub use Rattle.xc_turns.proofs.Halves.{course_in}
-- where it led the script
pub use Rattle.xc_turns.proofs.Halves.{jobs_in}
-- the machine's part goes by itself
pub use Rattle.xc_turns.proofs.Halves.{course_more}
-- the script's part goes by itself
pub use Rattle.xc_turns.proofs.Halves.{jobs_more}
-- the machine's part of it
pub use Rattle.xc_turns.proofs.Halves.{course_opened}
-- the script's part of it
pub use Rattle.xc_turns.proofs.Halves.{jobs_opened}
-- ---- HandedOver: What a client hands in keeps all that is true between two turns.
-- what is handed in keeps all that is true between two turns
pub use Rattle.xc_turns.proofs.HandedOver.{handed_consistent}
-- and that one job goes on alone
pub use Rattle.xc_turns.proofs.HandedOver.{handed_alone}
-- ---- HandledTurns: Each row of the table of turns keeps the handles, and the count of the host's calls.
-- a turn keeps the handles, and the count of the host's calls
pub use Rattle.xc_turns.proofs.HandledTurns.{turn_keeps_handles}
-- ---- LateCounts: Calls that are kept for the commit: one late call for each.
-- where one is left there are fewer ends
pub use Rattle.xc_turns.proofs.LateCounts.{left_some}
-- ---- LateEnds: However the next late call of a committing transaction ends, at the host or by starting a job.
-- by the call
pub use Rattle.xc_turns.proofs.LateEnds.{next_ends}
-- ---- Lefts: Each turn is one of those that were left.
-- each turn leaves fewer
pub use Rattle.xc_turns.proofs.Lefts.{leaves_fewer}
-- ---- Lists: Lists: what stands in one place, one element in another's place, one more after, and what is picked.
-- nothing changes where it stands there already
pub use Rattle.xc_turns.proofs.Lists.{set_itself}
-- the front stays
pub use Rattle.xc_turns.proofs.Lists.{get_front}
-- inside the front nothing changes
pub use Rattle.xc_turns.proofs.Lists.{get_inside}
-- with one more there are those before, and that one
pub use Rattle.xc_turns.proofs.Lists.{get_cases}
-- ---- LiveSteps: What a job is asked where it stands, by a script or by clients.
-- of a script what its walk asks
pub use Rattle.xc_turns.proofs.LiveSteps.{asks_scripted}
-- ---- Orders: Turns of one job alone keep transactions one after another.
-- a turn of the one job that goes on
pub use Rattle.xc_turns.proofs.Orders.{alone_turned}
-- a station before its first turn
pub use Rattle.xc_turns.proofs.Orders.{alone_opened}
-- where the job has no active transaction a later one may go on
pub use Rattle.xc_turns.proofs.Orders.{alone_later}
-- no entry is of a job after one that found the journal full
pub use Rattle.xc_turns.proofs.Orders.{alone_stops}
-- ---- Patience: Where no job may wait, a turn revokes nothing.
-- a turn revokes nothing where no job may wait
pub use Rattle.xc_turns.proofs.Patience.{turn_revokes_none}
-- ---- Sided: Each pair is open at one of its two sides, at the opening and after each call.
-- at each handle
pub use Rattle.xc_turns.proofs.Sided.{sided_at}
-- ---- StartedLists: The blocks of started jobs, where one job changes.
-- a call without a block starts none
pub use Rattle.xc_turns.proofs.StartedLists.{no_thread}
-- ---- StartedTurns: A turn keeps the order of the started jobs, and that whoever keeps a start owns the jobs.
-- late calls and their ends
pub use Rattle.xc_turns.proofs.StartedTurns.{none_started}
-- with one end more what that tells of is started too
pub use Rattle.xc_turns.proofs.StartedTurns.{one_more}
-- a turn keeps the order of the started jobs
pub use Rattle.xc_turns.proofs.StartedTurns.{turn_keeps_started}
-- as many are started as are live or have ended and as active transactions have started
pub use Rattle.xc_turns.proofs.StartedTurns.{started_count}
-- ---- StoryStart: Before the first turn all is true that is true between two turns.
-- a start keeps all
pub use Rattle.xc_turns.proofs.StoryStart.{start_kept}
-- ---- StoryTurns: Each turn goes on with the stories of all jobs.
-- a turn keeps the stories of all jobs, where it keeps the grounds of conflicts
pub use Rattle.xc_turns.proofs.StoryTurns.{a_turn_keeps_the_stories_but}
-- ---- Waits: Who waits for whom, by the rows of the table of turns.
-- after another answer the count is as before, or 0 where a transaction began or entered
pub use Rattle.xc_turns.proofs.Waits.{count_kept}
-- all other jobs stay
pub use Rattle.xc_turns.proofs.Waits.{others_kept}
-- who may wait
pub use Rattle.xc_turns.proofs.Waits.{may_wait}
-- and that it is counted
pub use Rattle.xc_turns.proofs.Waits.{waits_counted}
-- who is marked
pub use Rattle.xc_turns.proofs.Waits.{marks_made}
-- ---- Ways: From a journal that is true of both parts at once to the two parts, and back.
-- both parts make a journal that is true of both at once
pub use Rattle.xc_turns.proofs.Ways.{joint_of_parts}
-- ---- WordStates: Words after several calls, also in a block: how many there are, what is at one place, and what is replied.
-- calls change no count of words
pub use Rattle.xc_turns.proofs.WordStates.{behind_count}
-- ---- WordTurns: Each row of the table of turns keeps the words.
-- a turn keeps the words
pub use Rattle.xc_turns.proofs.WordTurns.{turn_keeps_words}
-- ---- Jobs: Active transactions by the place of their jobs.
-- the active transaction there is the job's
pub use Rattle.xc_turns.proofs.Jobs.{active_was}
-- and then the other job's
pub use Rattle.xc_turns.proofs.Jobs.{active_is}
-- the other job's is active there
pub use Rattle.xc_turns.proofs.Jobs.{active_here}
-- elsewhere those that are active were so
pub use Rattle.xc_turns.proofs.Jobs.{active_before}
-- and those that were still are
pub use Rattle.xc_turns.proofs.Jobs.{active_after}
-- where no job has an active one there is none
pub use Rattle.xc_turns.proofs.Jobs.{none_active}

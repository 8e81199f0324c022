-- What other crates cite of this one's proofs: they import no other file of them.
-- ---- Blocks: Bodies with inner blocks: what the plain calls of a body keep, and a back, the whole body keeps.
-- a call that doesn't go back leaves the body as a plain call does
pub use Rattle.xc_world.proofs.Blocks.{marked_now}
-- also where a call opens or closes a block
pub use Rattle.xc_world.proofs.Blocks.{marked_replies}
-- P is true of what is now, and of the save of an open block, which such calls led to what is now
pub use Rattle.xc_world.proofs.Blocks.{BlockHolds}
-- and calls one after another
pub use Rattle.xc_world.proofs.Blocks.{runs_keep}
-- the answers that fit
pub use Rattle.xc_world.proofs.Blocks.{Fits}
-- answers that fit one after another fit each call
pub use Rattle.xc_world.proofs.Blocks.{fit_all}
-- calls of any kind
pub use Rattle.xc_world.proofs.Blocks.{Any}
-- nothing is asked of calls one after another
pub use Rattle.xc_world.proofs.Blocks.{any_all}
-- ---- BlocksTaken: What an open block took and recorded, on the world of its save.
-- an open block of a body that its answers fit
pub use Rattle.xc_world.proofs.BlocksTaken.{open_block}
-- ---- Bodies: A whole body: what it depends on and changes, by induction from one call.
-- changes one after another
pub use Rattle.xc_world.proofs.Bodies.{keeps_on}
-- what keeps all but some objects keeps all but more of them
pub use Rattle.xc_world.proofs.Bodies.{keeps_more}
-- claims one after another
pub use Rattle.xc_world.proofs.Bodies.{objects_append}
-- what claims one after another own
pub use Rattle.xc_world.proofs.Bodies.{owned_append}
-- two bodies gave the same so far, in worlds that agree on what P tells; and from the worlds in which they began, each
-- changed nothing but its own
pub use Rattle.xc_world.proofs.Bodies.{Alike}
-- the objects of a call are among those of P
pub use Rattle.xc_world.proofs.Bodies.{CallWithin}
-- worlds that agree on P agree on what the call touches and makes
pub use Rattle.xc_world.proofs.Bodies.{call_agreed}
-- two bodies stay alike over one call on objects of P
pub use Rattle.xc_world.proofs.Bodies.{step_alike}
-- two copies are alike, and what they own is owned still
pub use Rattle.xc_world.proofs.Bodies.{CopiesAlike}
-- the saves of two bodies are alike, or neither has one
pub use Rattle.xc_world.proofs.Bodies.{SavedAlike}
-- two bodies are alike, and so are their saves
pub use Rattle.xc_world.proofs.Bodies.{StateAlike}
-- what was touched stays touched
pub use Rattle.xc_world.proofs.Bodies.{runs_touched}
-- and what it owned
pub use Rattle.xc_world.proofs.Bodies.{runs_owned}
-- two bodies stay alike over calls on objects of P
pub use Rattle.xc_world.proofs.Bodies.{runs_alike}
-- the same answers fit the calls of both
pub use Rattle.xc_world.proofs.Bodies.{runs_fit_alike}
-- in no block
pub use Rattle.xc_world.proofs.Bodies.{opens_alike}
-- what it changes, whatever other world there is
pub use Rattle.xc_world.proofs.Bodies.{body_keeps}
-- a body that has made nothing before gives the same in sound worlds that agree on what it touches
pub use Rattle.xc_world.proofs.Bodies.{body_alike_begun}
-- ---- Calls: One call: what it depends on and changes, by its claims.
-- claims and their objects
pub use Rattle.xc_world.proofs.Calls.{objects_of_claims}
-- what holds of each refusal, and of a call that passes, holds of what a call does
pub use Rattle.xc_world.proofs.Calls.{act_cases}
-- which answers fit it
pub use Rattle.xc_world.proofs.Calls.{fits_alike}
-- two worlds that agree on a kind of objects, among them the call's, go on so
pub use Rattle.xc_world.proofs.Calls.{agreed}
-- worlds that agree on a kind of objects still do after going on alike
pub use Rattle.xc_world.proofs.Calls.{still_agree}
-- it changes what it claims exclusively or makes
pub use Rattle.xc_world.proofs.Calls.{keeps_itself}
-- ---- EffectsBody: A body keeps all sound.
-- so does a back
pub use Rattle.xc_world.proofs.EffectsBody.{back_sound}
-- a body that its answers fit leaves its world and private state sound
pub use Rattle.xc_world.proofs.EffectsBody.{body-sound}
-- a body that its answers fit leaves another transaction's private state sound
pub use Rattle.xc_world.proofs.EffectsBody.{body-others_sound}
-- ---- EffectsCalls: What a call does is the effect of its record, outside the words.
-- but for the words, a call that takes no data leaves the world with the effect of its record
pub use Rattle.xc_world.proofs.EffectsCalls.{act-leads}
-- ---- EffectsParts: Effects of records one after another, and in a world with other words.
-- what remains asks for no word
pub use Rattle.xc_world.proofs.EffectsParts.{remains-words}
-- ---- EffectsRemains: What remains of records, however they ended, leaves a sound world sound.
-- it is fit, and has what the first one had
pub use Rattle.xc_world.proofs.EffectsRemains.{StaysFit}
-- what remains of records that were made leaves a fit world fit, and what was there
pub use Rattle.xc_world.proofs.EffectsRemains.{remains-fit}
-- where none of them makes an object that a private state is still to make, that stays sound
pub use Rattle.xc_world.proofs.EffectsRemains.{remains-sound}
-- ---- EffectsTrail: Each record of a body was made in the world that the ones before it left.
-- each record of a body was made in the world that the ones before it left
pub use Rattle.xc_world.proofs.EffectsTrail.{body-made}
-- ---- EffectsUndone: A compensation with a legal end leaves what remains with that end, and finds its record covered.
-- a compensation of the newest record that stands whole leaves what its end tells of
pub use Rattle.xc_world.proofs.EffectsUndone.{record-undone}
-- the newest record that stands whole is covered, where nothing is in its way
pub use Rattle.xc_world.proofs.EffectsUndone.{record-covered}
-- ---- GivenBack: What was taken from pipes and pairs, given back: it touches each object by itself.
-- giving back in two worlds that agree
pub use Rattle.xc_world.proofs.GivenBack.{given_alike}
-- giving back leaves all other objects
pub use Rattle.xc_world.proofs.GivenBack.{given_away}
-- it changes no word
pub use Rattle.xc_world.proofs.GivenBack.{given_words}
-- nor a block
pub use Rattle.xc_world.proofs.GivenBack.{given_blocks}
-- ---- GivenBeside: A step goes on beside data that is given back to objects which it doesn't speak of.
-- items that are of none of these objects are of none in particular
pub use Rattle.xc_world.proofs.GivenBeside.{each_away}
-- it is done as without them
pub use Rattle.xc_world.proofs.GivenBeside.{act_beside}
-- the same answers fit it
pub use Rattle.xc_world.proofs.GivenBeside.{fits_beside}
-- and it leaves the same record
pub use Rattle.xc_world.proofs.GivenBeside.{recorded_beside}
-- a compensation
pub use Rattle.xc_world.proofs.GivenBeside.{undone_beside}
-- this object is neither
pub use Rattle.xc_world.proofs.GivenBeside.{HasNoData}
-- objects that are neither have no such item
pub use Rattle.xc_world.proofs.GivenBeside.{no_data_elsewhere}
-- a name has none
pub use Rattle.xc_world.proofs.GivenBeside.{name_has_none}
-- a file has none
pub use Rattle.xc_world.proofs.GivenBeside.{file_has_none}
-- one such object alone
pub use Rattle.xc_world.proofs.GivenBeside.{one_object}
-- so it speaks of none
pub use Rattle.xc_world.proofs.GivenBeside.{no_data_spoken}
-- and whatever is given back is elsewhere
pub use Rattle.xc_world.proofs.GivenBeside.{data_elsewhere}
-- ---- Holding: What is held of claims: the claimed objects, each once, and exclusively those that were claimed so.
-- whether an object is in a list
pub use Rattle.xc_world.proofs.Holding.{contains_object}
-- the objects that are held are those that were claimed
pub use Rattle.xc_world.proofs.Holding.{held_seen}
-- the objects that are owned by what is held are those that the claims own
pub use Rattle.xc_world.proofs.Holding.{held_owned}
-- the test as a loop over the claims makes it
pub use Rattle.xc_world.proofs.Holding.{held_tested}
-- ---- Joined: A body that goes on is what came before with the later body after it.
-- a body with inner blocks, of one call more
pub use Rattle.xc_world.proofs.Joined.{body_last}
-- what fits in two parts
pub use Rattle.xc_world.proofs.Joined.{fits_on_append}
-- and with one call more
pub use Rattle.xc_world.proofs.Joined.{body_fits_last}
-- ---- Local: What a call does depends on the objects that it touches alone, and it changes no other.
-- each object that is not in the list is as before, on both sides; the others agree afterwards
pub use Rattle.xc_world.proofs.Local.{act_alike}
-- ---- LocalLate: What a late call does depends on its object alone, and it changes no other.
-- the object agrees afterwards, and each other is as before, on both sides
pub use Rattle.xc_world.proofs.LocalLate.{late_alike}
-- ---- LocalParts: What each change of a world depends on, and what it leaves.
-- no change
pub use Rattle.xc_world.proofs.LocalParts.{agree_itself}
-- ---- MachineHandles: The handles of a script's lines, and how they fill the places.
-- a pipe has one, a pair has two
pub use Rattle.xc_world.proofs.MachineHandles.{length-handles_of}
-- ---- Objects: Objects: whether a list has one, and worlds that agree at one.
-- the test finds an object that is in a list
pub use Rattle.xc_world.proofs.Objects.{found}
-- an object is in a list or is not
pub use Rattle.xc_world.proofs.Objects.{decide}
-- worlds that agree
pub use Rattle.xc_world.proofs.Objects.{agree_back}
-- where one world agrees with another, and that with a third, the first agrees with the third
pub use Rattle.xc_world.proofs.Objects.{agree_on}
-- lists of words that agree at each place are the same
pub use Rattle.xc_world.proofs.Objects.{words_same}
-- worlds that agree at every object, with the same blocks, are the same
pub use Rattle.xc_world.proofs.Objects.{worlds_same}
-- ---- Records: The effect and the undoing of a record: they depend on its objects and change no other.
-- a compensation depends on its record's objects alone, and changes no other
pub use Rattle.xc_world.proofs.Records.{undone_to_alike}
-- the objects of a record are of this kind
pub use Rattle.xc_world.proofs.Records.{IsOf}
-- worlds that agree on a kind of objects agree on it with what remains of records of these
pub use Rattle.xc_world.proofs.Records.{remains_agree}
-- what remains keeps all but the objects of its records
pub use Rattle.xc_world.proofs.Records.{remains_keep}
-- ---- RecordsLeft: The records that calls leave: one of each that leaves one.
-- none where the call leaves none
pub use Rattle.xc_world.proofs.RecordsLeft.{none_of}
-- it leaves one at most
pub use Rattle.xc_world.proofs.RecordsLeft.{one_left}
-- a file that is made, under its name
pub use Rattle.xc_world.proofs.RecordsLeft.{create_of}
-- a file that takes another name
pub use Rattle.xc_world.proofs.RecordsLeft.{rename_of}
-- so where a check refuses the call, with its reply
pub use Rattle.xc_world.proofs.RecordsLeft.{recorded_of}
-- and so of a call that the plain machine does
pub use Rattle.xc_world.proofs.RecordsLeft.{acted_of}
-- there is one of each
pub use Rattle.xc_world.proofs.RecordsLeft.{as_many}
-- those of more calls come behind
pub use Rattle.xc_world.proofs.RecordsLeft.{more_records}
-- those in front are of the calls in front
pub use Rattle.xc_world.proofs.RecordsLeft.{front_records}
-- ---- Replies: What may be replied of a call that the checks let pass.
-- a number that isn't 0
pub use Rattle.xc_world.proofs.Replies.{not_zero}
-- some bytes, and not more than are asked for
pub use Rattle.xc_world.proofs.Replies.{brings_some}
-- ---- Runs: A whole run: the late calls after a body depend on and change what the body claims.
-- a late call keeps all but what it may change
pub use Rattle.xc_world.proofs.Runs.{late_keeps}
-- a late call keeps all objects that it may not change
pub use Rattle.xc_world.proofs.Runs.{late_keeps_others}
-- which answers fit it
pub use Rattle.xc_world.proofs.Runs.{late_fits_alike}
-- all of them
pub use Rattle.xc_world.proofs.Runs.{LateWithin}
-- late calls that end the same in two worlds, that leave both agreeing on what is seen, and that the same answers fit
pub use Rattle.xc_world.proofs.Runs.{EndAlike}
-- late calls keep all but their own objects
pub use Rattle.xc_world.proofs.Runs.{lates_keep}
-- late calls end alike in worlds that agree on what they look at
pub use Rattle.xc_world.proofs.Runs.{lates_alike}
-- a body gives the same after a run of another that owns nothing that the body sees
pub use Rattle.xc_world.proofs.Runs.{other_run_apart}
-- ---- Sound: A step of a transaction keeps a world and its private state sound.
-- how many bytes a call may bring
pub use Rattle.xc_world.proofs.Sound.{read_size}
-- a call that passes steps well
pub use Rattle.xc_world.proofs.Sound.{done_well}
-- a call that its answer fits leaves its world and private state sound
pub use Rattle.xc_world.proofs.Sound.{act_sound}
-- ---- SoundCalls: Calls on names, pipes and pairs keep a world and a private state sound.
-- where no handle is vacant none is counted
pub use Rattle.xc_world.proofs.SoundCalls.{no_vacant}
-- one place that is set takes at most one
pub use Rattle.xc_world.proofs.SoundCalls.{vacant_set}
-- ---- SoundFiles: Calls on files keep a world and a private state sound.
-- an overwrite keeps the length
pub use Rattle.xc_world.proofs.SoundFiles.{length-overwritten}
-- ---- SoundLate: A late call keeps a world sound, with every private state in it.
-- a short late call leaves a fit world fit
pub use Rattle.xc_world.proofs.SoundLate.{late_fit}
-- a short late call on an object that is there keeps a private state sound
pub use Rattle.xc_world.proofs.SoundLate.{late_sound}
-- ---- SoundOpening: The opening of a script within its limits is sound for every transaction.
-- nor do all
pub use Rattle.xc_world.proofs.SoundOpening.{opening_words}
-- a script within its limits opens a sound world
pub use Rattle.xc_world.proofs.SoundOpening.{opening_sound}
-- ---- SoundParts: What keeps a world sound: each kind of change of it.
-- a choice has what both sides have, each where it is taken
pub use Rattle.xc_world.proofs.SoundParts.{chosen_so}
-- what is put is there
pub use Rattle.xc_world.proofs.SoundParts.{there_put}
-- ---- SoundReady: The late calls that a body leaves are ready when they are made, and stay so.
-- a call keeps a late call ready
pub use Rattle.xc_world.proofs.SoundReady.{act_keeps_ready}
-- a short late call keeps another one ready
pub use Rattle.xc_world.proofs.SoundReady.{late_keeps_ready}
-- a call leaves its own late call ready
pub use Rattle.xc_world.proofs.SoundReady.{act_leaves_ready}
-- ---- SoundSteps: What keeps a private state sound, and what a call leaves.
-- what a call leaves: all sound, nothing stored yet, at most so many bytes in the reply
pub use Rattle.xc_world.proofs.SoundSteps.{got_length}
-- a step leaves all sound, takes at most the next number, stores nothing yet and replies at most n bytes
pub use Rattle.xc_world.proofs.SoundSteps.{StepsWell}
-- ---- Taken: A body with what it took given back.
-- a call that takes, with any answer, where the object of its handle is there
pub use Rattle.xc_world.proofs.Taken.{KnowsHandle}
-- so what it took, given back, leads to the world before it
pub use Rattle.xc_world.proofs.Taken.{act_takes}
-- but for the words, what a body took, given back, leaves the world with the effects of its records
pub use Rattle.xc_world.proofs.Taken.{body_returns}
-- ---- Trails: What a body leaves speaks of its own objects: its records, and its late calls.
-- the records and the late calls of a body speak of its own
pub use Rattle.xc_world.proofs.Trails.{body_speaks}
-- ---- UndoingBody: Undoing all records of a body, the newest first, brings back the world of its begin.
-- a refused call has no record
pub use Rattle.xc_world.proofs.UndoingBody.{refusal-none}
-- faults on a way back record nothing
pub use Rattle.xc_world.proofs.UndoingBody.{undone-none}
-- a call is refused by a check, or is done
pub use Rattle.xc_world.proofs.UndoingBody.{act-cases}
-- ---- TakenApart: What was taken is apart from the records of a call.
-- two lists are given back one after the other
pub use Rattle.xc_world.proofs.TakenApart.{given_append}

-- How calls are printed.
use Rattle.std.specs.Prelude.{ℕ, List, [], ◌++◌, codes, Option}
use Rattle.std.specs.declared.option.Option.TheVariants.{None, Some}
use Rattle.std.specs.Fmt.{decimal}
use Rattle.xc_data.specs.declared.call.Call.{Call}
use Rattle.xc_data.specs.declared.call.Call.TheVariants.{Load, Store, XOpen, XCreate, XRead, XWriteOvr, XWriteSeq, XSeek}
use Rattle.xc_data.specs.declared.call.Call.TheVariants.{XLen, XRename, XClose, XPipe, XReadPipe, XPair, XRecvmsg}
use Rattle.xc_data.specs.declared.call.Call.TheVariants.{XUnlink, XSync, XWritePipe, XShutdown, XSendmsg, XThreadCreate}
use Rattle.xc_data.specs.declared.call.Call.TheVariants.{Save, Keep, Back}
use Rattle.xc_print.specs.Bytes.{bytes_text}
use Rattle.xc_print.specs.Objects.{handle_text}

-- what a late call with a slot ends with
abbrev pub slot_text : Option (List ℕ) → List ℕ
slot_text None = []
slot_text (Some slot) = codes " slot " ++ slot

-- a call: its word of the script and its values
abbrev pub call_text : Call → List ℕ
call_text (Load at) = codes "load " ++ decimal at
call_text (Store at value) = codes "store " ++ decimal at ++ codes " " ++ decimal value
call_text (XOpen name) = codes "x_open " ++ name
call_text (XCreate name) = codes "x_create " ++ name
call_text (XRead h n) = codes "x_read " ++ handle_text h ++ codes " " ++ decimal n
call_text (XWriteOvr h bytes) = codes "x_write_ovr " ++ handle_text h ++ codes " " ++ bytes_text bytes
call_text (XWriteSeq h bytes) = codes "x_write_seq " ++ handle_text h ++ codes " " ++ bytes_text bytes
call_text (XSeek h to) = codes "x_seek " ++ handle_text h ++ codes " " ++ decimal to
call_text (XLen h) = codes "x_len " ++ handle_text h
call_text (XRename from to) = codes "x_rename " ++ from ++ codes " " ++ to
call_text (XClose h) = codes "x_close " ++ handle_text h
call_text XPipe = codes "x_pipe"
call_text (XReadPipe h n) = codes "x_read_pipe " ++ handle_text h ++ codes " " ++ decimal n
call_text XPair = codes "x_pair"
call_text (XRecvmsg h) = codes "x_recvmsg " ++ handle_text h
call_text (XUnlink name slot) = codes "x_unlink " ++ name ++ slot_text slot
call_text (XSync h slot) = codes "x_sync " ++ handle_text h ++ slot_text slot
call_text (XWritePipe h bytes slot) = codes "x_write_pipe " ++ handle_text h ++ codes " " ++ bytes_text bytes ++ slot_text slot
call_text (XShutdown h slot) = codes "x_shutdown " ++ handle_text h ++ slot_text slot
call_text (XSendmsg h bytes slot) = codes "x_sendmsg " ++ handle_text h ++ codes " " ++ bytes_text bytes ++ slot_text slot
call_text (XThreadCreate body slot) = codes "x_thread_create " ++ body ++ slot_text slot
call_text Save = codes "save"
call_text Keep = codes "keep"
call_text Back = codes "back"

-- How replies and the ends of late calls are printed.
use Rattle.std.specs.Prelude.{ℕ, List, ◌++◌, codes}
use Rattle.std.specs.Fmt.{decimal}
use Rattle.xc_data.specs.declared.call.Reply.{Reply}
use Rattle.xc_data.specs.declared.call.Reply.TheVariants as reply
use Rattle.xc_data.specs.declared.call.LateEnd.{LateEnd}
use Rattle.xc_data.specs.declared.call.LateEnd.TheVariants as late_end
use Rattle.xc_print.specs.Bytes.{bytes_text}
use Rattle.xc_print.specs.Objects.{handle_text}

-- what a call replied
abbrev pub reply_text : Reply → List ℕ
reply_text (reply.Number n) = decimal n
reply_text (reply.Got bytes) = bytes_text bytes
reply_text (reply.Made h) = handle_text h
reply_text (reply.MadePair h g) = handle_text h ++ codes " " ++ handle_text g
reply_text reply.Done = codes "done"
reply_text reply.End = codes "end"
reply_text reply.Empty = codes "empty"
reply_text reply.NoName = codes "no name"
reply_text reply.Exists = codes "exists"
reply_text reply.BadHandle = codes "bad handle"
reply_text reply.PastEnd = codes "past end"
reply_text reply.TooBig = codes "too big"
reply_text reply.TooMuch = codes "too much"
reply_text reply.BadWord = codes "bad word"
reply_text (reply.Fault n) = codes "fault " ++ decimal n
reply_text reply.Late = codes "late"
reply_text (reply.Undone faults) = codes "done faults " ++ decimal faults

-- how a late call ended
abbrev pub late_end_text : LateEnd → List ℕ
late_end_text late_end.Done = codes "done"
late_end_text (late_end.Full n) = codes "full " ++ decimal n
late_end_text late_end.Shut = codes "shut"
late_end_text late_end.NoName = codes "no name"
late_end_text late_end.NoScript = codes "no script"
late_end_text (late_end.Fault n) = codes "fault " ++ decimal n
late_end_text (late_end.NoMemory n) = codes "no memory " ++ decimal n

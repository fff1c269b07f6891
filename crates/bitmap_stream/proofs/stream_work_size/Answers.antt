-- `stream_work_size`: 0 of an empty stream, else what the record of its first byte asks for.
use Rattle.bitmap_format.specs.Pixels.{format_to_form}
use Rattle.bitmap_stream.proofs.Entry.{work_empty, work_some}
use Rattle.bitmap_stream.proofs.stream_work_size.Goals as goal

pub returns-in-None : goal.returns-in-None
returns-in-None c =
    let a = c.args in
    work_empty (format_to_form a.format) a.width a.height a.stream.now c.in-None.ensures.value

pub returns-in-Some : goal.returns-in-Some
returns-in-Some c =
    let a = c.args in
    let k = c.header_from_byte in
    work_some (format_to_form a.format) a.width a.height c.work_size.result a.stream.now c.in-Some.byte.now k.result c.in-Some.ensures.value k.ensures c.work_size.ensures

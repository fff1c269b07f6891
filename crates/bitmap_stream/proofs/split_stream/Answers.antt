-- `split_stream`: a law of proofs/Entry.antt for each return.
use Rattle.std.proofs.Common.{[], sym}
use Rattle.std.proofs.lemmas.List.{append-nil}
use Rattle.std.proofs.lemmas.Option.{MatchOption-at_some}
use Rattle.std.proofs.lemmas.Result.{err_from_is_err_and}
use Rattle.bitmap_stream.proofs.Entry.{no_first_byte, split_rle, no_pad, split_padded, body_behind}
use Rattle.bitmap_stream.proofs.split_stream.Goals as goal

pub returns-in_err-first-clause-split : goal.returns-in_err-first-clause-split
returns-in_err-first-clause-split c =
    let why = c.in_err-first in
    let p = err_from_is_err_and c.from_residual.result c.from_residual.ensures.1 in
    rw (p.1, p.2) (no_first_byte c.args.stream.now c.split_first.result why.field-0.0 c.split_first.ensures.cases why.ensures.value)

pub returns-then-header : goal.returns-then-header
returns-then-header c =
    let k = c.header_from_byte-header in
    let parts = MatchOption-at_some _ _ _ c.in_ok-first.ensures.ok_part c.split_first.ensures.cases in
    record { split = split_rle c.args.stream.now _ _ parts k.result k.ensures c.if-header.true; body = body_behind c.args.stream.now _ _ _ [] parts (sym (append-nil _)) }

pub returns-in_err-_pad-clause-split : goal.returns-in_err-_pad-clause-split
returns-in_err-_pad-clause-split c =
    let k = c.header_from_byte-header in
    let why = c.in_err-_pad in
    let parts = MatchOption-at_some _ _ _ c.in_ok-first.ensures.ok_part c.split_first.ensures.cases in
    let p = err_from_is_err_and c.from_residual-in_err-_pad.result c.from_residual-in_err-_pad.ensures.1 in
    rw (p.1, p.2) (no_pad c.args.stream.now _ _ parts k.result k.ensures c.if-header.false c.split_last.result why.field-0.0 c.split_last.ensures.cases why.ensures.value)

pub returns : goal.returns
returns c =
    let k = c.header_from_byte-header in
    let parts = MatchOption-at_some _ _ _ c.in_ok-first.ensures.ok_part c.split_first.ensures.cases in
    let last = MatchOption-at_some _ _ _ c.in_ok-_pad.ensures.ok_part c.split_last.ensures.cases in
    record { split = split_padded c.args.stream.now _ _ parts k.result k.ensures c.if-header.false _ _ last; body = body_behind c.args.stream.now _ _ _ _ parts last.0 }

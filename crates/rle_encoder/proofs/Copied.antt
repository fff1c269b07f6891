-- A row that was packed at the start of an array, and copied to the destination.
use Rattle.std.proofs.Common.{Ok, ◌≡◌, ℕ, ◌+◌, ◌-◌, ◌≤◌, List, length, take, sym, ap, ◌∙◌, arith}
use borrow.Rule.Slice.PartMut.{put_mid}
use Rattle.rle_format.specs.Answer.{counted}
use Rattle.rle_format.specs.Slice.{write_at}
use Rattle.rle_format.specs.Segment.{Segment, segments_bytes}
use Rattle.rle_format.proofs.WriteLoop.{Wrote, answer_at_fits, slice_at_fits}
use Rattle.rle_scanline_encoder.proofs.Part.{put_mid-write_at}

pub copied_part : (ss : List Segment) (packed d ys : List ℕ) (at n : ℕ) → n ≡ length (segments_bytes ss) → take n packed ≡ segments_bytes ss → n ≤ length d - at → ys ≡ take n packed
    → Wrote ss d (put_mid at (at + n - at) d ys) at (Ok (at + n))
copied_part ss packed d ys at n long put fits is =
    let all : ys ≡ segments_bytes ss = is ∙ put in
    let size : at + n ≡ at + length ys = ap (λ (k : ℕ). at + k) (long ∙ ap length (sym all)) in (
      ap counted (ap (λ (k : ℕ). at + k) long) ∙ sym (answer_at_fits ss d at (omega arith)),
      put_mid-write_at d ys at (at + n) size ∙ ap (write_at d at) all ∙ sym (slice_at_fits ss d at (omega arith)),
    )

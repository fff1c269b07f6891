-- The packing of a plane's rows is unpacked: the complete rows, then the rest, and a row that is truncated.
use mathlib.Core.Path.{◌≡◌, sym, ap, ◌∙◌}
use mathlib.Core.List.{List, ◌++◌, append_assoc}
use mathlib.Core.Option.{Option}
use Prim.Native.Nat.{ℕ, zero, suc, ◌+◌, ◌*◌, ◌≤◌, ◌<◌}
use native.Mathlib.Nat.{zero-mul, suc-mul, zero-add}
use native.Mathlib.Omega.{arith}
use lib.ListN.{length, take, get_or, length-append}
use lib.Seq.{take-add, drop-append_seam}
use Rattle.rle_format.specs.Answer.{counted, refused, prepend}
use Rattle.rle_format.specs.Segment.{segments_bytes}
use Rattle.rle_format.specs.Pack.{row_segments, row_at, codes_at, packing}
use Rattle.rle_format.specs.Unpack.{unpack_rows}
use Rattle.rle_format.proofs.Outcome.{prepend_nil, prepend_prepend, answer_cong}
use Rattle.rle_format.proofs.Row.{row_from}
use Rattle.rle_format.proofs.RowAt.{length-codes_at}
use Rattle.rle_format.proofs.Plane.{row_full, row_stopped}
use Rattle.rle_round_trip.specs.Prefix.{covered_values}
use Rattle.rle_format.proofs.RowSegments.{row_segments_encodable, row_segments_values, row_segments_count}
use Rattle.rle_round_trip.proofs.Row.{row_complete, row_truncated}
use Rattle.rle_round_trip.proofs.Samples.{above_at, restore_codes}
use Rattle.rle_round_trip.proofs.Packing.{row_packing, packing_0, packing_step}

module _ (width : ℕ) (samples : List ℕ) where
  -- row r by itself: its coded values come back from its bytes, or those of the segments that are complete within the first m
  module _ (r : ℕ) (within : suc r * width ≤ length samples) where
    codes_complete : (rest : List ℕ)
        → row_from width 0 (row_packing width samples r ++ rest) ≡ record { written = codes_at width samples r; answer = counted (length (row_packing width samples r)) }
    unfolding row_packing
    codes_complete rest =
        let codes = codes_at width samples r in
        row_complete (row_segments codes) (row_segments_encodable codes) width 0 rest (row_segments_count codes ∙ length-codes_at width samples r within)
        ∙ ap (λ (l : List ℕ). record { written = l; answer = counted (length (segments_bytes (row_segments codes))) }) (row_segments_values codes)

    pub codes_truncated : (h m : ℕ) (above : Option (List ℕ)) → m < length (row_packing width samples r)
        → unpack_rows width (suc h) above (take m (row_packing width samples r))
        ≡ record { written = take (covered_values (row_segments (codes_at width samples r)) m) (codes_at width samples r); answer = refused 7 }
    unfolding row_packing
    codes_truncated h m above less =
        let codes = codes_at width samples r in
        let is : row_from width 0 (take m (segments_bytes (row_segments codes))) ≡ record { written = take (covered_values (row_segments codes) m) codes; answer = refused 7 } =
        row_truncated (row_segments codes) (row_segments_encodable codes) width 0 m (row_segments_count codes ∙ length-codes_at width samples r within) less
        ∙ ap (λ (l : List ℕ). record { written = take (covered_values (row_segments codes) m) l; answer = refused 7 }) (row_segments_values codes)
        in
        row_stopped width 7 h above (take m (segments_bytes (row_segments codes))) (answer_cong is) ∙ is

  module _ (are_bytes : (i : ℕ) → get_or samples i 0 < 256) where
    -- one row in front of the rest
    row_then_rest : (r h : ℕ) (rest : List ℕ) → suc r * width ≤ length samples
        → unpack_rows width (suc h) (above_at width samples r) (row_packing width samples r ++ rest)
        ≡ prepend (row_at width samples r) (length (row_packing width samples r)) (unpack_rows width h (above_at width samples (suc r)) rest)
    row_then_rest r h rest within =
        let is = codes_complete r within rest in
        (row_full width (length (row_packing width samples r)) (row_packing width samples r ++ rest) (answer_cong is)).rows h (above_at width samples r)
        ∙ rw (is, restore_codes width samples are_bytes r within, drop-append_seam (row_packing width samples r) rest)

    -- k rows in front of the rest
    pub rows_then_rest : (k h : ℕ) (rest : List ℕ) → k * width ≤ length samples
        → unpack_rows width (k + h) (above_at width samples 0) (packing width k samples ++ rest)
        ≡ prepend (take (k * width) samples) (length (packing width k samples)) (unpack_rows width h (above_at width samples k) rest)
    unfolding row_at
    rows_then_rest zero h rest within = rw (packing_0 width samples, zero-mul, zero-add) (sym (prepend_nil (unpack_rows width h (above_at width samples 0) rest)))
    rows_then_rest (suc k) h rest within =
        let e : suc k + h ≡ k + suc h = omega arith in
        let one_more : suc k * width ≡ k * width + width = suc-mul k width in
        rw (
          e,
          packing_step width samples k,
          append_assoc (packing width k samples) (row_packing width samples k) rest,
          length-append (packing width k samples) (row_packing width samples k),
          one_more,
          take-add (k * width) width samples,
        )
        (rows_then_rest k (suc h) (row_packing width samples k ++ rest) (omega arith)
        ∙ rw (row_then_rest k h rest within)
        (prepend_prepend (take (k * width) samples) (row_at width samples k) (length (packing width k samples)) (length (row_packing width samples k))
        (unpack_rows width h (above_at width samples (suc k)) rest)))

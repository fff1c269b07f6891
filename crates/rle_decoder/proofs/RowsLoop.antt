-- The iterations of the loop of `decode`, on plain values. Assumes nothing.
use Rattle.std.proofs.Common.{◌≡◌, ℕ, zero, suc, ◌+◌, ◌-◌, ◌*◌, ◌<◌, ◌≤◌, List, [], ◌++◌, length, take, drop, sym, refl, ap, ◌∙◌, add-zero, suc-mul, mul_comm, arith, length-drop, length-take, drop-drop, drop_at}
use mathlib.Core.Option.{none, some}
use Rattle.rle_format.specs.Answer.{counted, refused, stop, add_count, prepend}
use Rattle.rle_format.specs.Slice.{overwrite, write_at}
use Rattle.rle_format.specs.Delta.{restore_row_of}
use Rattle.rle_format.specs.Unpack.{unpack_rows}
use Rattle.rle_format.proofs.Slice.{suffix, replace_suffix, suffix_overwrite, length-write_at, take-write_at, drop-write_at, write_at_nil, write_at_overwrite}
use Rattle.rle_format.proofs.Outcome.{prepend_nil, prepend_prepend, answer_cong, slice_cong}
use Rattle.rle_format.proofs.Plane.{RowFull, AboveHasWidth, restored_has_width, row_full, row_stopped, rows_zero}
use Rattle.rle_decoder.specs.Rows.{coded_row, row_above}

-- the row above has the width of the plane
above_has_width : (d : List ℕ) (start w : ℕ) → (0 < start → w ≤ start) → start ≤ length d → AboveHasWidth w (row_above d start w)
above_has_width d zero w h l = record {}
above_has_width d (suc k) w h l = let some : w ≤ suc k = h (omega arith) in simp (length-drop, length-take) (omega arith)

-- behind a row of at least one sample the row above is that row
above_of_next : (d : List ℕ) (start w : ℕ) → 0 < w → row_above d (start + w) w ≡ some (drop start (take (start + w) d))
above_of_next d start w h = go (start + w) refl
  where
    go : (n : ℕ) → n ≡ start + w → row_above d n w ≡ some (drop start (take n d))
    go zero e = absurd (omega arith)
    go (suc k) e = let same : suc k - w ≡ start = omega arith in ap (λ (i : ℕ). some (drop i (take (suc k) d))) same

-- the invariant: d₀ is the slice on entry and d the slice now, `start` the index at which the next row begins, `left` the rows still to read
pub record RowsInvariant (src d₀ d : List ℕ) (w h at start left : ℕ) : Type 0 where
  pub len : length d ≡ length d₀
  pub room : start + left * w ≤ length d₀
  pub low : at ≤ length src
  pub above : 0 < start → w ≤ start
  pub rest : drop start d ≡ drop start d₀
  pub rows : unpack_rows w h none src ≡ prepend (take start d) at (unpack_rows w left (row_above d start w) (drop at src))

pub rows_start : (src d : List ℕ) (w h : ℕ) → w * h ≤ length d → RowsInvariant src d d w h 0 0 h
rows_start src d w h fits = record {
  len = refl;
  room = omega (arith, mul_comm w h);
  low = omega arith;
  above = λ l. absurd (omega arith);
  rest = refl;
  rows = sym (prepend_nil _);
}

module _ (src d₀ d : List ℕ) (w h at start : ℕ) where
  -- no row is left
  pub rows_end : (left : ℕ) → RowsInvariant src d₀ d w h at start left → left ≤ 0
      → (counted at ≡ (unpack_rows w h none src).answer) × (d ≡ overwrite d₀ (unpack_rows w h none src).written)
  unfolding prepend stop
  rows_end (suc k) i l = absurd (omega arith)
  rows_end zero i l =
      let e : unpack_rows w h none src ≡ prepend (take start d) at (stop (counted 0)) =
      i.rows ∙ ap (prepend (take start d) at) (rows_zero w (row_above d start w) (drop at src)) in
      let into : start ≤ length d = omega (arith, i.len, i.room) in (
        sym (answer_cong e ∙ ap counted (add-zero at)),
        sym (write_at_nil d start) ∙ write_at_overwrite d₀ d start [] into i.rest ∙ sym (slice_cong d₀ e),
      )

  -- a row is left behind the first n
  pub rows_one_left : (n : ℕ) → RowsInvariant src d₀ d w h at start (h - n) → n < h → RowsInvariant src d₀ d w h at start (suc (h - (n + 1)))
  rows_one_left n i l =
      let more : h - n ≡ suc (h - (n + 1)) = omega arith in
      rw more at i

  module _ (k : ℕ) (i : RowsInvariant src d₀ d w h at start (suc k)) where
    pub row_fits : start + w + k * w ≤ length d₀
    row_fits = omega (arith, i.room, suc-mul k w)

    -- the next row is refused, and its coded values are written
    pub rows_refused : (ys : List ℕ) → ys ≡ overwrite (suffix d start) (coded_row src at w).written → (r : ℕ) → (coded_row src at w).answer ≡ refused r
        → ((coded_row src at w).answer ≡ (unpack_rows w h none src).answer) × (replace_suffix d start ys ≡ overwrite d₀ (unpack_rows w h none src).written)
    unfolding prepend
    rows_refused ys wrote r e =
        let u : unpack_rows w h none src ≡ prepend (take start d) at (coded_row src at w) =
        i.rows ∙ ap (prepend (take start d) at) (row_stopped w r k (row_above d start w) (drop at src) e) in
        let into : start ≤ length d = omega (arith, i.len, i.room) in (
          e ∙ sym (answer_cong u ∙ ap (add_count at) e),
          suffix_overwrite d ys (coded_row src at w).written start wrote ∙ write_at_overwrite d₀ d start (coded_row src at w).written into i.rest ∙ sym (slice_cong d₀ u),
        )

    -- the next row is read from m bytes
    module _ (m : ℕ) (read : (coded_row src at w).answer ≡ counted m) where
      whole : RowFull w m (drop at src)
      whole = row_full w m (drop at src) read

      pub within : at + m ≤ length src
      within = omega (arith, whole.within, length-drop at src, i.low)

      -- its samples are written
      pub rows_step : (d' codes : List ℕ) → 0 < w → codes ≡ (coded_row src at w).written → d' ≡ write_at d start (restore_row_of (row_above d start (length codes)) codes)
          → RowsInvariant src d₀ d' w h (at + m) (start + w) k
      rows_step d' codes some_width held restored =
          let vs : List ℕ = (coded_row src at w).written in
          let S : List ℕ = restore_row_of (row_above d start w) vs in
          let into-row : start + w ≤ length d = omega (arith, row_fits, i.len) in
          let ls : length S ≡ w = restored_has_width w (row_above d start w) vs (above_has_width d start w i.above (omega arith)) whole.wide in
          let wide : length codes ≡ w = ap length held ∙ whole.wide in
          let is : d' ≡ write_at d start S = restored ∙ (λ j. write_at d start (restore_row_of (row_above d start (wide j)) (held j))) in
          let into : start + length S ≤ length d = omega arith in
          let c : start + length S ≡ start + w = omega arith in
          let front : take (start + w) d' ≡ take start d ++ S = rw (is, ← c) (take-write_at d start S into) in
          let last : drop start (take (start + w) d') ≡ S = rw front (drop_at (take start d) S start (simp length-take (omega arith))) in
          let next : row_above d' (start + w) w ≡ some S = above_of_next d' start w some_width ∙ ap (λ (v : List ℕ). some v) last in
          record {
            len = rw is (length-write_at d start S into ∙ i.len);
            room = row_fits;
            low = within;
            above = λ l. omega arith;
            rest = rw (is, ← c) (drop-write_at d start S into ∙ sym (drop-drop (length S) start d) ∙ ap (drop (length S)) i.rest ∙ drop-drop (length S) start d₀);
            rows = i.rows
                ∙ ap (prepend (take start d) at) (whole.rows k (row_above d start w) ∙ rw (drop-drop m at src))
                ∙ prepend_prepend (take start d) S at m (unpack_rows w k (some S) (drop (at + m) src))
                ∙ (λ j. prepend (sym front j) (at + m) (unpack_rows w k (sym next j) (drop (at + m) src)));
          }

-- Packing a plane: the checks before the segments, in their order; and a plane that was packed.
use mathlib.Core.Path.{◌≡◌, ap, ◌∙◌}
use mathlib.Core.Logic.{⊎_elim}
use mathlib.Core.List.{List}
use Prim.Native.Nat.{ℕ, ◌*◌, ◌≤◌, ◌<◌}
use native.Mathlib.Omega.{arith}
use borrow.Author.Tests.{lt-ltb, le-ltb}
use lib.Dec.{ltb}
use lib.ListN.{length}
use Rattle.rle_format.specs.Choice.{choose}
use Rattle.rle_format.specs.Answer.{counted, refused, Outcome, stop, refuse}
use Rattle.rle_format.specs.Pack.{plane_segments, packing, write_segments, pack_plane}
use Rattle.rle_format.proofs.Cases.{le_or_gt, eq_or_ne}
use Rattle.rle_format.proofs.Outcome.{answer_cong}
use Rattle.rle_format.proofs.Writing.{write_all, write_refused}
use Rattle.rle_format.proofs.PackingSize.{packing_size_max}
use Rattle.rle_format.proofs.Sides.{zero_width, zero_height, too_wide, too_high, sides_allowed}

module _ (w h room : ℕ) (samples : List ℕ) where
  -- what follows the checks of the sides
  abbrev after_sides : Outcome
  after_sides = choose (ltb (length samples) (w * h)) (refuse 11) (write_segments (plane_segments w h samples) room)

  pub pack_zero_width : w ≡ 0 → pack_plane w h room samples ≡ refuse 1
  unfolding pack_plane
  pack_zero_width e = zero_width refuse w h after_sides e

  module _ (hw : w ≡ 0 → ⊥) where
    pub pack_zero_height : h ≡ 0 → pack_plane w h room samples ≡ refuse 1
    unfolding pack_plane
    pack_zero_height e = zero_height refuse w h after_sides hw e

    module _ (hh : h ≡ 0 → ⊥) where
      pub pack_too_wide : 8192 < w → pack_plane w h room samples ≡ refuse 2
      unfolding pack_plane
      pack_too_wide l = too_wide refuse w h after_sides hw hh l

      module _ (lw : w ≤ 8192) where
        pub pack_too_high : 8192 < h → pack_plane w h room samples ≡ refuse 2
        unfolding pack_plane
        pack_too_high l = too_high refuse w h after_sides hw hh lw l

        module _ (lh : h ≤ 8192) where
          pub pack_short_source : length samples < w * h → pack_plane w h room samples ≡ refuse 11
          unfolding pack_plane
          pack_short_source l = sides_allowed refuse w h after_sides hw hh lw lh ∙ simp (lt-ltb (length samples) (w * h) l)

          pub pack_segments : w * h ≤ length samples → pack_plane w h room samples ≡ write_segments (plane_segments w h samples) room
          unfolding pack_plane
          pack_segments l = sides_allowed refuse w h after_sides hw hh lw lh ∙ simp (le-ltb (length samples) (w * h) l)

          -- two bytes a sample are room enough: refusal 12 does not come
          pub pack_two_bytes_enough : w * h ≤ length samples → 2 * (w * h) ≤ room
              → pack_plane w h room samples ≡ record { written = packing w h samples; answer = counted (length (packing w h samples)) }
          unfolding packing
          pack_two_bytes_enough l enough = pack_segments l ∙ write_all (plane_segments w h samples) room (omega (arith, packing_size_max w h samples))

-- ---- a plane that was packed

-- it passed the checks, and all its packing was written and counted
pub record PackedComplete (w h room : ℕ) (samples : List ℕ) (n : ℕ) : Type 0 where
  pub wide : (1 ≤ w) × (w ≤ 8192)
  pub high : (1 ≤ h) × (h ≤ 8192)
  pub enough : w * h ≤ length samples
  pub size : n ≡ length (packing w h samples)
  pub fits : n ≤ room
  pub whole : (pack_plane w h room samples).written ≡ packing w h samples

module _ (w h room : ℕ) (samples : List ℕ) (n : ℕ) (e : (pack_plane w h room samples).answer ≡ counted n) where
  not_refused : {X : Type 0} (k : ℕ) → (pack_plane w h room samples).answer ≡ refused k → X
  not_refused k r = let z : ◌≡◌ {A = ℕ} 0 1 = cc in absurd (omega arith)

  at_entry : {X : Type 0} (k : ℕ) → pack_plane w h room samples ≡ refuse k → X
  unfolding stop
  at_entry k r = not_refused k (answer_cong r)

  written_complete : (w ≡ 0 → ⊥) → (h ≡ 0 → ⊥) → w ≤ 8192 → h ≤ 8192 → w * h ≤ length samples → pack_plane w h room samples ≡ write_segments (plane_segments w h samples) room
      → PackedComplete w h room samples n
  unfolding packing
  written_complete hw hh lw lh l is =
      ⊎_elim
      (λ (fits : length (packing w h samples) ≤ room).
      let all = is ∙ write_all (plane_segments w h samples) room fits in
      let size : n ≡ length (packing w h samples) = cc (answer_cong all) in
      record {
        wide = (omega arith, lw);
        high = (omega arith, lh);
        enough = l;
        size = size;
        fits = omega arith;
        whole = ap (λ (o : Outcome). o.written) all;
      })
      (λ (short : room < length (packing w h samples)). not_refused 12 (answer_cong is ∙ write_refused (plane_segments w h samples) room short))
      (le_or_gt (length (packing w h samples)) room)

  pub packed_complete : PackedComplete w h room samples n
  packed_complete =
      ⊎_elim (λ (z : w ≡ 0). at_entry 1 (pack_zero_width w h room samples z))
      (λ (hw : w ≡ 0 → ⊥).
      ⊎_elim (λ (z : h ≡ 0). at_entry 1 (pack_zero_height w h room samples hw z))
      (λ (hh : h ≡ 0 → ⊥).
      ⊎_elim
      (λ (lw : w ≤ 8192).
      ⊎_elim
      (λ (lh : h ≤ 8192).
      ⊎_elim (λ (l : w * h ≤ length samples). written_complete hw hh lw lh l (pack_segments w h room samples hw hh lw lh l))
      (λ (l : length samples < w * h). at_entry 11 (pack_short_source w h room samples hw hh lw lh l))
      (le_or_gt (w * h) (length samples)))
      (λ (l : 8192 < h). at_entry 2 (pack_too_high w h room samples hw hh lw l))
      (le_or_gt h 8192))
      (λ (l : 8192 < w). at_entry 2 (pack_too_wide w h room samples hw hh l))
      (le_or_gt w 8192))
      (eq_or_ne h 0))
      (eq_or_ne w 0)

-- Packing a plane, when its sides were checked by `ValidSides::new`.
use Rattle.std.proofs.Common.{◌≡◌, ℕ, ◌*◌, ◌<◌, ◌≤◌, List, Ok, Err, ltb, length, sym, ◌∙◌}
use Rattle.rle_format.specs.Choice.{choose}
use Rattle.rle_format.specs.declared.Refusal.{Refusal}
use Rattle.rle_format.specs.declared.valid_sides.ValidSides.{ValidSides}
use Rattle.rle_format.specs.Answer.{Outcome, number, refuse}
use Rattle.rle_format.specs.Sides.{check_sides_of}
use Rattle.rle_format.specs.CheckedSides.{sides_or_number}
use Rattle.rle_format.specs.Pack.{plane_segments, write_segments, pack_plane}
use Rattle.rle_format.proofs.CheckedSides.{sides_same, sides_refused}
use Rattle.rle_format.proofs.PackPlane.{pack_short_source, pack_segments}

module _ (w h room : ℕ) (samples : List ℕ) where
  pub pack_refused_sides : (r : Refusal) → sides_or_number (Err r) ≡ check_sides_of (λ (n : ℕ). Err n) w h (Ok (w, h)) → pack_plane w h room samples ≡ refuse (number r)
  unfolding pack_plane
  pack_refused_sides r e = sides_refused w h r e refuse (choose (ltb (length samples) (w * h)) (refuse 11) (write_segments (plane_segments w h samples) room))

  module _ (s : ValidSides) (e : sides_or_number (Ok s) ≡ check_sides_of (λ (n : ℕ). Err n) w h (Ok (w, h))) where
    pub pack_refused_source : length samples < s.width * s.height → pack_plane w h room samples ≡ refuse 11
    pack_refused_source l =
        let same = sides_same w h s e in
        rw (← same.0, ← same.1) (pack_short_source s.width s.height room samples s.allowed.some_width s.allowed.some_height s.allowed.wide s.allowed.high l)

    pub pack_checked : s.width * s.height ≤ length samples → pack_plane w h room samples ≡ write_segments (plane_segments s.width s.height samples) room
    pack_checked l =
        let same = sides_same w h s e in
        rw (← same.0, ← same.1) (pack_segments s.width s.height room samples s.allowed.some_width s.allowed.some_height s.allowed.wide s.allowed.high l)

-- the outcome of packing is that for equal sides
pub same_sides : (w h v u room : ℕ) (samples : List ℕ) (o : Outcome) → pack_plane v u room samples ≡ o → v ≡ w → u ≡ h → pack_plane w h room samples ≡ o
same_sides w h v u room samples o is ew eh = (λ i. pack_plane (sym ew i) (sym eh i) room samples) ∙ is

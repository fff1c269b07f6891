-- Unpacking a plane, when its sides were checked by `ValidSides::new`. Assumes nothing.
use Rattle.std.proofs.Common.{◌≡◌, ℕ, ◌*◌, ◌<◌, ◌≤◌, List, Ok, Err, ltb}
use Rattle.std.proofs.Math.Option.{none}
use Rattle.rle_format.specs.Choice.{choose}
use Rattle.rle_format.specs.declared.Refusal.{Refusal}
use Rattle.rle_format.specs.declared.valid_sides.ValidSides.{ValidSides}
use Rattle.rle_format.specs.Answer.{number, refuse}
use Rattle.rle_format.specs.Sides.{check_sides_of}
use Rattle.rle_format.specs.CheckedSides.{sides_or_number}
use Rattle.rle_format.specs.Unpack.{unpack_rows, unpack_plane}
use Rattle.rle_format.proofs.CheckedSides.{sides_same, sides_refused}
use Rattle.rle_format.proofs.Plane.{plane_short_destination, plane_rows}

module _ (w h room : ℕ) (body : List ℕ) where
  pub unpack_refused_sides : (r : Refusal) → sides_or_number (Err r) ≡ check_sides_of (λ (n : ℕ). Err n) w h (Ok (w, h)) → unpack_plane w h room body ≡ refuse (number r)
  unfolding unpack_plane
  unpack_refused_sides r e = sides_refused w h r e refuse (choose (ltb room (w * h)) (refuse 10) (unpack_rows w h none body))

  module _ (s : ValidSides) (e : sides_or_number (Ok s) ≡ check_sides_of (λ (n : ℕ). Err n) w h (Ok (w, h))) where
    pub unpack_refused_room : room < s.width * s.height → unpack_plane w h room body ≡ refuse 10
    unpack_refused_room l =
        let same = sides_same w h s e in
        rw (← same.0, ← same.1) (plane_short_destination s.width s.height room body s.allowed.some_width s.allowed.some_height s.allowed.wide s.allowed.high l)

    pub unpack_checked : s.width * s.height ≤ room → unpack_plane w h room body ≡ unpack_rows s.width s.height none body
    unpack_checked l =
        let same = sides_same w h s e in
        rw (← same.0, ← same.1) (plane_rows s.width s.height room body s.allowed.some_width s.allowed.some_height s.allowed.wide s.allowed.high l)

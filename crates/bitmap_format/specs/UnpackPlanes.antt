-- Planes unpacked one after the other into the work area (FORMAT 2.4, 2.5).
use Rattle.std.specs.Prelude.{ℕ, ◌-◌, List, [], ◌∷◌, length, drop}
use Rattle.rle_format.specs.Answer.{Answer, counted, refused, Outcome, add_count}
use Rattle.rle_format.specs.Slice.{write_at}
use Rattle.rle_format.specs.Unpack.{unpack_plane}
use Rattle.bitmap_format.specs.Planes.{PlaneAt}

-- the work area after several planes, and the number of bytes read or the refusal
pub record PlanesOutcome : Type 0 where
  pub work : List ℕ
  pub answer : Answer

-- adds n bytes that were read before
unfoldable pub add_read : ℕ → PlanesOutcome → PlanesOutcome
add_read n u = record { work = u.work; answer = add_count n u.answer }

-- a plane, read from the start of `body` and written from its offset on
abbrev pub unpack_plane_at : PlaneAt → (work body : List ℕ) → Outcome
unpack_plane_at p work body = unpack_plane p.width p.height (length work - p.offset) body

-- each plane begins where the one before ended. A plane gets the work area as the one before left it, so that what it does not write stays:
-- complete planes, or alpha under a refused first colour plane (FORMAT 8.3)
unfoldable pub unpack_planes : List PlaneAt → (work body : List ℕ) → PlanesOutcome
unpack_planes [] work body = record { work = work; answer = counted 0 }
unpack_planes (p ∷ planes) work body =
    let after : List ℕ = write_at work p.offset (unpack_plane_at p work body).written in
    elim (unpack_plane_at p work body).answer [
      | refused r ↦ record { work = after; answer = refused r }
      | counted n ↦ add_read n (unpack_planes planes after (drop n body))
    ]

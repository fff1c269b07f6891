-- Alpha in the work area of an RLE picture: behind the colour planes it stays whole, and the planes are the same in every form of pixels.
use Prim.Native.Nat.{ℕ, ◌+◌, ◌-◌, ◌*◌, ◌≤◌}
use mathlib.Core.Bool.{Bool, true, false}
use mathlib.Core.Path.{◌≡◌, refl, sym, ap, ◌∙◌}
use mathlib.Core.List.{List, [], ◌∷◌, ◌++◌}
use native.Mathlib.Nat.{zero-add}
use native.Mathlib.Omega.{arith}
use lib.ListN.{length, take, drop}
use lib.Seq.{drop-drop}
use Rattle.rle_format.specs.Choice.{choose}
use Rattle.rle_format.specs.Answer.{Answer, counted, refused, Outcome}
use Rattle.rle_format.specs.Slice.{overwrite}
use Rattle.rle_format.specs.Unpack.{unpack_plane}
use Rattle.rle_format.proofs.Answer.{refused_not_counted}
use Rattle.rle_format.proofs.Slice.{length-write_at, take-write_at_before}
use Rattle.pixel_format.specs.Channel.{ChannelOffsets}
use Rattle.bitmap_format.specs.declared.BitmapStreamHeader.{BitmapStreamHeader}
use Rattle.bitmap_format.specs.Planes.{PlaneAt, plane_at, subsampled, first_plane, second_plane, third_plane, colour_planes, alpha_planes_at, planes_with_alpha_at}
use Rattle.bitmap_format.specs.Sizes.{sum_over, colour_planes_size, alpha_offset_of}
use Rattle.bitmap_format.specs.Pixels.{PixelForm, three_bytes, four_bytes, shown_alpha_size_of}
use Rattle.bitmap_format.specs.UnpackPlanes.{PlanesOutcome, add_read, unpack_plane_at, unpack_planes}
use Rattle.bitmap_format.proofs.UnpackPlanes.{work_after, unpack_planes_read, unpack_planes_refused}
use Rattle.bitmap_format.specs.Picture.{planes_for}
use Rattle.bitmap_format.proofs.PlanesAlike.{drop-write_at_at, room_any, written_most, colour_consecutive, planes_behind, Alike, ahead_alike, planes_alike}

module _ (header : BitmapStreamHeader) (w h : ℕ) where
  abbrev colour : List PlaneAt
  colour = colour_planes (subsampled header.color_plane_definition) w h

  -- the planes with alpha, and without
  pub flagged_planes : (form : PixelForm) → header.use_alpha ≡ true → planes_for form header w h ≡ plane_at w h (alpha_offset_of form header w h) ∷ colour
  unfolding planes_with_alpha_at alpha_planes_at
  flagged_planes form e = ap (λ (t : Bool). choose t (plane_at w h (alpha_offset_of form header w h) ∷ []) [] ++ colour) e

  pub plain_planes : (form : PixelForm) → header.use_alpha ≡ false → planes_for form header w h ≡ colour
  unfolding planes_with_alpha_at alpha_planes_at
  plain_planes form e = ap (λ (t : Bool). choose t (plane_at w h (alpha_offset_of form header w h) ∷ []) [] ++ colour) e

  -- the first colour plane alone is as large as alpha
  full_least : w * h ≤ colour_planes_size header w h
  unfolding sum_over colour_planes first_plane second_plane third_plane
  full_least = omega arith

  -- a work area that refusal 5 lets pass has room for alpha
  pub alpha_fits : (form : PixelForm) (room : ℕ) → header.use_alpha ≡ true → colour_planes_size header w h + shown_alpha_size_of form header.use_alpha w h ≤ room
      → alpha_offset_of form header w h + w * h ≤ room
  alpha_fits three_bytes room e l = omega (arith, full_least)
  alpha_fits (four_bytes p) room e l =
      let all : choose header.use_alpha (w * h) 0 ≡ w * h = ap (λ (t : Bool). choose t (w * h) 0) e in
      omega (arith, all)

  -- ---- alpha stays whole

  module _ (p : ChannelOffsets) (work body : List ℕ) (flag : header.use_alpha ≡ true) (room : colour_planes_size header w h + w * h ≤ length work) where
    abbrev alpha : PlaneAt
    alpha = plane_at w h (colour_planes_size header w h)

    -- what alpha's plane alone is
    abbrev alone : Outcome
    alone = unpack_plane w h (w * h) body

    same : unpack_plane_at alpha work body ≡ alone
    same = room_any w h (length work - colour_planes_size header w h) (w * h) body (omega arith) (omega arith)

    most : length (unpack_plane_at alpha work body).written ≤ w * h
    most = written_most w h (length work - colour_planes_size header w h) body

    put : drop (colour_planes_size header w h) (work_after alpha work body) ≡ overwrite (drop (colour_planes_size header w h) work) alone.written
    unfolding overwrite
    put =
        drop-write_at_at work (colour_planes_size header w h) (unpack_plane_at alpha work body).written (omega arith)
        ∙ ap (λ (l : List ℕ). (unpack_plane_at alpha work body).written ++ l)
        (sym (drop-drop (length (unpack_plane_at alpha work body).written) (colour_planes_size header w h) work))
        ∙ ap (λ (o : Outcome). o.written ++ drop (length o.written) (drop (colour_planes_size header w h) work)) same

    -- whatever the outcome of the colour planes, and of alpha itself
    pub alpha_whole : drop (colour_planes_size header w h) (unpack_planes (planes_for (four_bytes p) header w h) work body).work
        ≡ overwrite (drop (colour_planes_size header w h) work) (unpack_plane w h (w * h) body).written
    unfolding add_read
    alpha_whole =
        ap (λ (ps : List PlaneAt). drop (colour_planes_size header w h) (unpack_planes ps work body).work) (flagged_planes (four_bytes p) flag)
        ∙ go (unpack_plane_at alpha work body).answer refl
      where
        go : (a : Answer) → (unpack_plane_at alpha work body).answer ≡ a
            → drop (colour_planes_size header w h) (unpack_planes (alpha ∷ colour) work body).work ≡ overwrite (drop (colour_planes_size header w h) work) alone.written
        go (refused r) e = ap (λ (u : PlanesOutcome). drop (colour_planes_size header w h) u.work) (unpack_planes_refused alpha colour work body r e) ∙ put
        go (counted n) e =
            let len : length (work_after alpha work body) ≡ length work =
            length-write_at work (colour_planes_size header w h) (unpack_plane_at alpha work body).written (omega (arith, most)) in
            let stays = planes_behind colour 0 (colour_planes_size header w h) (work_after alpha work body) (drop n body)
            (colour_consecutive (subsampled header.color_plane_definition) w h) (omega arith) (omega arith) in
            ap (λ (u : PlanesOutcome). drop (colour_planes_size header w h) u.work) (unpack_planes_read alpha colour work body n e) ∙ stays.rest ∙ put

    -- a refused alpha plane leaves the colour part of the work area unchanged
    pub alpha_refused : (r : ℕ) → alone.answer ≡ refused r
        → ((unpack_planes (planes_for (four_bytes p) header w h) work body).answer ≡ refused r)
        × (take (colour_planes_size header w h) (unpack_planes (planes_for (four_bytes p) header w h) work body).work ≡ take (colour_planes_size header w h) work)
    alpha_refused r e =
        let stop : unpack_planes (planes_for (four_bytes p) header w h) work body ≡ record { work = work_after alpha work body; answer = refused r } =
        ap (λ (ps : List PlaneAt). unpack_planes ps work body) (flagged_planes (four_bytes p) flag)
        ∙ unpack_planes_refused alpha colour work body r (ap (λ (o : Outcome). o.answer) same ∙ e) in (
          ap (λ (u : PlanesOutcome). u.answer) stop,
          ap (λ (u : PlanesOutcome). take (colour_planes_size header w h) u.work) stop
              ∙ take-write_at_before work (colour_planes_size header w h) (unpack_plane_at alpha work body).written (omega arith),
        )

  -- ---- the planes of a picture are the same in every form

  module _ (f g : PixelForm) (work other body : List ℕ) (room : colour_planes_size header w h + shown_alpha_size_of f header.use_alpha w h ≤ length work)
      (room-other : colour_planes_size header w h + shown_alpha_size_of g header.use_alpha w h ≤ length other) where
    pub forms_alike : Alike (unpack_planes (planes_for f header w h) work body) (unpack_planes (planes_for g header w h) other body) (colour_planes_size header w h)
    forms_alike = by_flag header.use_alpha refl
      where
        colours : (one two rest : List ℕ) → colour_planes_size header w h ≤ length one → colour_planes_size header w h ≤ length two
            → Alike (unpack_planes colour one rest) (unpack_planes colour two rest) (0 + colour_planes_size header w h)
        colours one two rest l m = planes_alike colour 0 one two rest (colour_consecutive (subsampled header.color_plane_definition) w h) (omega arith) (omega arith) refl

        with_alpha : alpha_offset_of f header w h + w * h ≤ length work → alpha_offset_of g header w h + w * h ≤ length other
            → Alike (unpack_planes (plane_at w h (alpha_offset_of f header w h) ∷ colour) work body) (unpack_planes (plane_at w h (alpha_offset_of g header w h) ∷ colour) other body) (colour_planes_size header w h)
        with_alpha l m = go (unpack_plane_at p work body).answer refl
          where
            p : PlaneAt
            p = plane_at w h (alpha_offset_of f header w h)

            q : PlaneAt
            q = plane_at w h (alpha_offset_of g header w h)

            same : unpack_plane_at p work body ≡ unpack_plane_at q other body
            same = room_any w h (length work - p.offset) (length other - q.offset) body (omega arith) (omega arith)

            len : length (work_after p work body) ≡ length work
            len = length-write_at work p.offset (unpack_plane_at p work body).written (omega (arith, written_most w h (length work - p.offset) body))

            len_other : length (work_after q other body) ≡ length other
            len_other = length-write_at other q.offset (unpack_plane_at q other body).written (omega (arith, written_most w h (length other - q.offset) body))

            go : (a : Answer) → (unpack_plane_at p work body).answer ≡ a
                → Alike (unpack_planes (p ∷ colour) work body) (unpack_planes (q ∷ colour) other body) (colour_planes_size header w h)
            go (refused r) ea =
                let eb : (unpack_plane_at q other body).answer ≡ refused r = sym (ap (λ (o : Outcome). o.answer) same) ∙ ea in
                rw (unpack_planes_refused p colour work body r ea, unpack_planes_refused q colour other body r eb) (record { answer = refl; planes = λ n k. refused_not_counted k })
            go (counted n) ea =
                let eb : (unpack_plane_at q other body).answer ≡ counted n = sym (ap (λ (o : Outcome). o.answer) same) ∙ ea in
                rw (unpack_planes_read p colour work body n ea, unpack_planes_read q colour other body n eb)
                (ahead_alike n _ _ (0 + colour_planes_size header w h) (colour_planes_size header w h) (zero-add (colour_planes_size header w h))
                (colours (work_after p work body) (work_after q other body) (drop n body) (omega (arith, len)) (omega (arith, len_other))))

        by_flag : (t : Bool) → header.use_alpha ≡ t
            → Alike (unpack_planes (planes_for f header w h) work body) (unpack_planes (planes_for g header w h) other body) (colour_planes_size header w h)
        by_flag false e = rw (plain_planes f e, plain_planes g e) (rw (zero-add (colour_planes_size header w h)) at (colours work other body (omega arith) (omega arith)))
        by_flag true e = rw (flagged_planes f e, flagged_planes g e) (with_alpha (alpha_fits f (length work) e room) (alpha_fits g (length other) e room-other))

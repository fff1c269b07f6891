-- `write_rgb24_rows`: the rows of the planes are those of the picture (`row_is` of ImageLoop.antt).
use Rattle.std.proofs.Common.{ℕ, ◌*◌, [], length, refl, sym, ap, ◌+◌, ◌∙◌, arith}
use Rattle.rle_format.proofs.Slice.{suffix, suffix_room}
use Rattle.bitmap_format.specs.Planes.{subsampled}
use Rattle.bitmap_format.specs.Pixels.{three_bytes}
use Rattle.bitmap_format.specs.Image.{image_row, write_rows}
use Rattle.bitmap_format.proofs.Counting.{start_first, start_next}
use Rattle.bitmap_rows.proofs.Rows.{row_written}
use Rattle.bitmap_image.specs.Rows.{chroma_size_of}
use Rattle.bitmap_image.proofs.ImageLoop.{index_first, index_next, chroma_row_within, row_places, third_start_small, next_start_small, image_room, row_is, image_start, image_step, image_end, row_size_is}
use Rattle.bitmap_image.proofs.AlphaRows.{three_byte_row_is}
use Rattle.bitmap_image.proofs.rgb24.write_rgb24_rows.Goals as goal

pub overflow_add-third : goal.overflow_add-third
overflow_add-third c =
    let p = c.args.planes.picture in
    omega (arith, third_start_small (subsampled p.header.color_plane_definition) p.width p.height p.allowed.wide p.allowed.high, c.args.planes.chroma_size)

pub loop-row-init : goal.loop-row-init
loop-row-init c =
    let p = c.args.planes.picture in
    (index_first _, start_first _ _ _, start_first _ _ _ ∙ ap (λ (k : ℕ). p.width * p.height + k) (sym c.args.planes.chroma_size), image_start _ _ _)

pub row_samples-samples-requires : goal.row_samples-samples-requires
row_samples-samples-requires c =
    let p = c.args.planes.picture in
    let l = c.loop-row in
    let s = subsampled p.header.color_plane_definition in
    let places =
    row_places s p.width p.height _ _ (length c.args.planes.planes.now) l.row l.second p.allowed.wide p.allowed.high refl refl c.args.planes.room c.loop-row-test.true
    (chroma_row_within s p.width p.height l.row l.second c.loop-row-test.true l.invariant.1) in
    (c.loop-row-test.true, places.second_row, omega (arith, places.third_row, l.invariant.1, l.invariant.2))

pub slice_bounds-write_rgb24_row-count : goal.slice_bounds-write_rgb24_row-count
slice_bounds-write_rgb24_row-count c =
    let p = c.args.planes.picture in
    let l = c.loop-row in
    let fits = image_room three_bytes l.row p.width p.height (length c.args.image.now) (3 * p.width) l.to c.loop-row-test.true p.allowed.wide p.allowed.high refl c.requires l.invariant.0 in
    omega arith

pub slice_bounds-write_rgb24_row-start : goal.slice_bounds-write_rgb24_row-start
slice_bounds-write_rgb24_row-start c =
    let p = c.args.planes.picture in
    let l = c.loop-row in
    let fits = image_room three_bytes l.row p.width p.height (length c.args.image.now) (3 * p.width) l.to c.loop-row-test.true p.allowed.wide p.allowed.high refl c.requires l.invariant.0 in
    omega arith

pub overflow_add-second : goal.overflow_add-second
overflow_add-second c =
    let p = c.args.planes.picture in
    let l = c.loop-row in
    let small = next_start_small (subsampled p.header.color_plane_definition) p.width p.height l.row l.second p.allowed.wide p.allowed.high c.loop-row-test.true l.invariant.1 in
    omega (arith, c.chroma_step-step.ensures)

pub overflow_add-third-in-loop-row : goal.overflow_add-third-in-loop-row
overflow_add-third-in-loop-row c =
    let p = c.args.planes.picture in
    let l = c.loop-row in
    let small = next_start_small (subsampled p.header.color_plane_definition) p.width p.height l.row l.second p.allowed.wide p.allowed.high c.loop-row-test.true l.invariant.1 in
    omega (arith, c.chroma_step-step.ensures, l.invariant.1, l.invariant.2)

pub loop-row-preserved : goal.loop-row-preserved
loop-row-preserved c =
    let p = c.args.planes.picture in
    let planes = c.args.planes.planes.now in
    let d = p.header.color_plane_definition in
    let l = c.loop-row in
    let s = c.row_samples-samples in
    let r = s.result in
    let fits = image_room three_bytes l.row p.width p.height (length c.args.image.now) (3 * p.width) l.to c.loop-row-test.true p.allowed.wide p.allowed.high refl c.requires l.invariant.0 in
    let w = c.write_rgb24_row in
    let written =
    row_written three_bytes d p.header.use_alpha r.first.now r.second.now r.third.now [] p.width (suffix l.image l.to) p.level s.ensures.room.0 s.ensures.room.1 s.ensures.room.2
    (omega arith) (suffix_room l.image l.to (3 * p.width) (omega arith)) in (
      index_next l.row (3 * p.width) l.to l.invariant.0,
      start_next (subsampled d) p.width (p.width * p.height) l.row l.second l.invariant.1 ∙ ap (λ (k : ℕ). l.second + k) (sym c.chroma_step-step.ensures),
      start_next (subsampled d) p.width (p.width * p.height + chroma_size_of p) l.row l.third l.invariant.2 ∙ ap (λ (k : ℕ). l.third + k) (sym c.chroma_step-step.ensures),
      image_step _ l.image _ _ l.row (3 * p.width) l.to _ l.invariant.3 l.invariant.0 (w.ensures ∙ written)
          (row_is three_bytes d p.header.use_alpha planes [] p.width p.height l.row 0 l.second l.third r.first.now r.second.now r.third.now l.invariant.1 l.invariant.2 s.ensures.rows.0 s.ensures.rows.1 s.ensures.rows.2
          ∙ three_byte_row_is d p.header.use_alpha p.width p.height planes l.row) w.auto.dst,
    )

pub returns : goal.returns
returns c =
    let p = c.args.planes.picture in
    image_end _ _ _ _ _ _ c.loop-row.invariant.3 (omega arith)
    ∙ ap (λ (k : ℕ). write_rows k (image_row three_bytes p.header.color_plane_definition p.header.use_alpha p.width p.height c.args.planes.planes.now []) p.height c.args.image.now) (row_size_is three_bytes p.width _ refl)

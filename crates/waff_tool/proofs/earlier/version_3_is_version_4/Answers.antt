use Rattle.waff_tool.proofs.EarlierLaws.{checked_alike, compared_alike, drawn_alike, have_no_lists, limits_alike, ranked_alike, rated_alike, replayed_alike, told_alike}
use Rattle.waff_tool.proofs.earlier.version_3_is_version_4.Goals as goal

pub returns : goal.returns
returns c = record {
  lists = have_no_lists;
  told = told_alike;
  limits = limits_alike;
  compared = compared_alike;
  ranked = ranked_alike;
  checked = checked_alike;
  rated = rated_alike;
  drawn = drawn_alike;
  replayed = replayed_alike;
}

use Rattle.ca_model_examples.proofs.ServerRows.{many-posts, paused-posts, paused-takes, cancelled-entries, masks-share-bits}
use Rattle.ca_model_examples.proofs.server_rows.queued_posts_are_as_worked.Goals as goal

pub returns : goal.returns
returns c = record { many_posts = many-posts; paused_posts = paused-posts; paused_takes = paused-takes; cancelled = cancelled-entries; masks = masks-share-bits }
